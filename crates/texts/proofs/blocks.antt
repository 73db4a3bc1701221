-- Where the first LF stands, the lines that it ends, what is moved, what is read, and the lines of an input by its blocks.
mod Blocks
mod Cutting
mod Ends
mod Moving
mod Reading
