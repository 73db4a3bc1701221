-- A register of group settings: what it keeps of them (Settings), the rule of whole MHz (WholeMhz), what an entry makes of a register (GroupRegister),
-- what the entries say of it (GroupTaken), and lists of entries (GroupHistory).
pub mod Settings
pub mod WholeMhz
pub mod GroupRegister
pub mod GroupTaken
pub mod GroupHistory
