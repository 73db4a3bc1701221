-- `sheet::sheet_of` meets its contract: before the line for count, the lines for 1 to count - 1 are there.
-- Assumes nothing.
use Rattle.std.proofs.Common.{◌≡◌, ◌≤◌, ◌+◌, ◌*◌, ◌-◌}
use Rattle.arrayvec.specs.ArrayString.{array_string_len}
use Rattle.sheet.specs.Sheet.{sheet_of}
use Rattle.sheet.proofs.sheet_of.Given as goal

abbrev pub invariant-loop-count : goal.invariant-loop-count
invariant-loop-count l = (l.count ≤ l.n + 1) × (l.page.bytes ≡ sheet_of (l.count - 1)) × (array_string_len l.page ≤ 31 + 13 * (l.count - 1))
