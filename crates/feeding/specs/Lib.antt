-- What feeding a list to a register computes (Feeding), the two registers (Registers), and when a list is refused, in the document's words (FeedCauses).
pub mod Feeding
pub mod Registers
pub mod FeedCauses
