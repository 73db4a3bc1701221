-- What the contracts of `catch_up` cite: the document's words in Causes, what the call computes in Joining.
pub mod Causes
pub mod Joining
