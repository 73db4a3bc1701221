-- The register that a member of a group run holds: its host gives each committed value an entry, in the commit's slot (document 02, E6: "A register of
-- cells from the commits"). Lists of what has happened have the latest first, as in crates/group.
-- Assumes nothing.
use Rattle.std.specs.Prelude.{◌≡◌, ◌⊎◌, cond, List, [], ◌∷◌, ℕ, eqb, Option, None, Some}
use Rattle.calls.specs.declared.CommittedSlot.{CommittedSlot}
use Rattle.register.specs.declared.CellEntry.{CellEntry}
use Rattle.register.specs.declared.Change.{Change}
use Rattle.group_register.specs.GroupHistory.{group_after}
use Rattle.group_register.specs.declared.GroupRegister.{GroupRegister}
use Rattle.group_register.specs.declared.RegisterSettings.{RegisterSettings}
use Rattle.group.specs.Claim.{Entry}

-- what a value says, by the hosts: a cell, and its assignment or release
pub record CellChange : Type 0 where
  pub cell : ℕ
  pub change : Change

abbrev pub entry_for_commit : (ℕ → CellChange) → ℕ → ℕ → CellEntry
entry_for_commit says slot v = record { slot = slot; cell = (says v).cell; change = (says v).change }

-- one entry more, where there is a commit
abbrev pub plus_entry : (ℕ → CellChange) → Option CommittedSlot → List CellEntry → List CellEntry
plus_entry says None es = es
plus_entry says (Some commit) es = entry_for_commit says commit.slot commit.v ∷ es

-- the entries from a member's commits
unfoldable pub entries_for : (ℕ → CellChange) → ℕ → List Entry → List CellEntry
entries_for says member [] = []
entries_for says member (e ∷ past) = cond (eqb member e.member) (plus_entry says e.reply.commit (entries_for says member past)) (entries_for says member past)

-- the register that it holds, begun from what the group's settings say of registers: "All offices hold the same slot" (E13)
abbrev pub register_of_member : RegisterSettings → (ℕ → CellChange) → ℕ → List Entry → GroupRegister
register_of_member kept says member past = group_after kept (entries_for says member past)

-- the run up to some moment
abbrev pub UpTo : List Entry → List Entry → Type 0
UpTo past [] = past ≡ []
UpTo past (e ∷ es) = (past ≡ e ∷ es) ⊎ UpTo past es
