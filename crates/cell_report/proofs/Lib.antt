mod PageFits
