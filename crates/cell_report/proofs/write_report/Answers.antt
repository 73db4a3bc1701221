-- `cell_report::write_report` is safe: the length of the text lies within the page.
-- Tried without: with `using(page_fits)` on the function the search stops at its limits.
-- Assumes nothing.
use Rattle.cell_report.proofs.PageFits.{page_fits}
use Rattle.cell_report.proofs.write_report.Goals as goal

pub slice_bounds-bytes-end : goal.slice_bounds-bytes-end
slice_bounds-bytes-end c = (page_fits _ _ c.page_after-page.ensures).0

pub slice_bounds-write_all-end : goal.slice_bounds-write_all-end
slice_bounds-write_all-end c = (page_fits _ _ c.page_after-page.ensures).1
