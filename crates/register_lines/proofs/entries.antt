-- Entries are read as they are written, and the report of an input of them.
pub mod EntriesRead
pub mod ReportLaws
