-- Where a line ends, and what is kept of a block of input.
-- Assumes nothing.
use Rattle.std.specs.Prelude.{◌≡◌, ◌⊎◌, Bool, true, false, cond, ◌&&◌, List, [], ◌∷◌, ◌++◌, ℕ, suc, ◌+◌, ◌≤◌, ◌<◌, eqb, ltb, length, get_or, take, drop}
use Rattle.std.specs.List.{FoldsTo}
use Rattle.texts.specs.declared.blocks.Between.{Between}
use Rattle.texts.specs.declared.blocks.Start.{Start}

-- the place of the first LF (10) from a place on, or the length where there is none
pub record FirstEnd (input : List ℕ) (from end : ℕ) : Type 0 where
  pub after : from ≤ end
  pub within : end ≤ length input
  pub none_before : (i : ℕ) → from ≤ i → i < end → get_or input i 0 ≡ 10 → ⊥
  pub is_end : end < length input → get_or input end 0 ≡ 10

-- the first line that is not skipped begins behind the LF of the one that is; where this one has no LF, all of the input is skipped, and what follows it
abbrev pub behind_skipped : List ℕ → ℕ → Start
behind_skipped input end =
    cond (ltb end (length input)) (record { from = suc end; skipping = false }) (record { from = end; skipping = true })

-- where the first line begins that is not skipped
abbrev pub FirstLine : List ℕ → Bool → Start → Type 0
FirstLine input false s = s ≡ record { from = 0; skipping = false }
FirstLine input true s = (end : ℕ) × FirstEnd input 0 end × (s ≡ behind_skipped input end)

-- n bytes from a place on stand at the start, and behind them what stood there
unfoldable pub move_to_start : ℕ → ℕ → List ℕ → List ℕ
move_to_start from n input = take n (drop from input) ++ drop n input

-- how much of the output is put once there is room for the longest answer: what is put already, or nothing, once that is written
abbrev pub with_room : ℕ → ℕ
with_room put = cond (ltb put 32768) put 0

-- ---- the lines of a block, where bytes of the first one stand before the block

-- those that an LF ends, without it
unfoldable pub ended_behind : List ℕ → List ℕ → List (List ℕ)
ended_behind begun [] = []
ended_behind begun (b ∷ bytes) = cond (eqb b 10) (begun ∷ ended_behind [] bytes) (ended_behind (begun ++ (b ∷ [])) bytes)

-- what stands behind the last LF: the line that has not ended
unfoldable pub open_behind : List ℕ → List ℕ → List ℕ
open_behind begun [] = begun
open_behind begun (b ∷ bytes) = cond (eqb b 10) (open_behind [] bytes) (open_behind (begun ++ (b ∷ [])) bytes)

abbrev pub ended_lines : List ℕ → List (List ℕ)
ended_lines bytes = ended_behind [] bytes

abbrev pub open_line : List ℕ → List ℕ
open_line bytes = open_behind [] bytes

-- what follows the last LF of an input is a line, where there is something
abbrev pub last_line : List ℕ → List (List ℕ)
last_line [] = []
last_line (b ∷ bytes) = (b ∷ bytes) ∷ []

-- whether each line is shorter than n bytes, where `begun` stands before these
unfoldable pub lines_fit : ℕ → List ℕ → List ℕ → Bool
lines_fit n begun [] = true
lines_fit n begun (b ∷ bytes) = cond (eqb b 10) (lines_fit n [] bytes) (ltb (length begun + 1) n && lines_fit n (begun ++ (b ∷ [])) bytes)

-- all lines of an input; or those that an LF ends, where no more is asked for, or more blocks were read than a loop counts
abbrev pub LinesTaken : {L : Type 0} → (L → List ℕ → L → Type 0) → (L → Bool) → L → List ℕ → L → Type 0
LinesTaken takes asks first bytes last =
    FoldsTo takes first (ended_lines bytes ++ last_line (open_line bytes)) last
    ⊎ (FoldsTo takes first (ended_lines bytes) last × ((asks last ≡ false) ⊎ (18446744073709551615 ≤ length bytes)))

-- between two blocks, behind these bytes: the lines that an LF ends are taken, and the one that has not ended stands at the start of the input buffer
pub record TakenSoFar {L : Type 0} (takes : L → List ℕ → L → Type 0) (first : L) (bytes input : List ℕ) (between : Between) (taker : L) : Type 0 where
  pub kept : between.kept ≡ length (open_line bytes)
  pub stands : take between.kept input ≡ open_line bytes
  pub none_skipped : between.skipping ≡ false
  pub taken : FoldsTo takes first (ended_lines bytes) taker

-- a block is read behind other bytes, and the lines of all fit the input buffer
pub record BlockFits {L : Type 0} (takes : L → List ℕ → L → Type 0) (got input : List ℕ) (before : Between) (taker first : L) (bytes : List ℕ) : Type 0 where
  pub so_far : TakenSoFar takes first bytes input before taker
  pub fits : lines_fit (length input) [] (bytes ++ got) ≡ true

-- the input ends with the block, and its lines are taken; or it goes on behind it
pub record BlockTaken {L : Type 0} (takes : L → List ℕ → L → Type 0) (asks : L → Bool) (got input : List ℕ) (before : Between) (taker : L)
    (input' : List ℕ) (after : Between) (taker' : L) (more : Bool) : Type 0 where
  pub ends : more ≡ false → (first : L) (bytes : List ℕ) → BlockFits takes got input before taker first bytes → LinesTaken takes asks first (bytes ++ got) taker'
  pub goes_on : more ≡ true → (first : L) (bytes : List ℕ) → BlockFits takes got input before taker first bytes
      → TakenSoFar takes first (bytes ++ got) input' after taker'
  pub reads_some : more ≡ true → 0 < length got
