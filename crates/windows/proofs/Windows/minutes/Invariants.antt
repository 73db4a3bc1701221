-- `windows::Windows::minutes` meets its contract: after i turns the minutes of the first i windows are kept.
-- Assumes nothing.
use Rattle.std.proofs.Common.{◌≡◌, take, map}
use Rattle.windows.specs.Windows.{start_of, end_of, agreed_windows, minute_places}
use Rattle.windows.proofs.Windows.minutes.Given as goal

abbrev pub invariant-loop-i : goal.invariant-loop-i
invariant-loop-i l = record {
  starts_kept : l.starts ≡ minute_places (map start_of (take l.i (agreed_windows l.self)));
  ends_kept : l.ends ≡ minute_places (map end_of (take l.i (agreed_windows l.self)));
}
