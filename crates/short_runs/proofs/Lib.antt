-- The turns of the lister, what a kept run holds, and that what is put is the sheet, whole.
mod Turns
mod Piles
mod Kept
mod Trials
mod SheetIsListing
mod Room
