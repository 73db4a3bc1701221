-- What is wrong with the numbers of a line (docs/ORACLE.md, "Answer lines": the reasons, in their order of looking).
-- Assumes nothing.
use Rattle.std.specs.Prelude.{Bool, true, cond, ◌&&◌, List, ℕ, zero, suc, ◌+◌, ◌*◌, min, eqb, leb, ltb, length, Option, None, Some, unwrap_or, Result, Ok, Err}
use Rattle.lines_read.specs.line_calls.Calls.{line_number_at, words_place}
use Rattle.call_lines.specs.declared.Fault.{Fault}
use Rattle.call_lines.specs.declared.Fault.TheVariants.{UnknownKind, WrongCount, NotFlag, NoSuchMode, NoSuchPromise, PlaceAboveLimit}

unfoldable pub is_kind : ℕ → Bool
is_kind kind = leb 1 kind && leb kind 10

-- ---- how many numbers the line has, by its kind and the counts on it. A count from 2048 on gives more than a line may have.

-- of settings whose windows are counted at w, ten numbers for each
unfoldable pub windows_count_at : List ℕ → ℕ → ℕ
windows_count_at ns w = w + 1 + 10 * min (line_number_at ns w) 2048

abbrev pub settings_count_at : List ℕ → ℕ → ℕ
settings_count_at ns c = windows_count_at ns (13 + c + min (line_number_at ns (11 + c)) 2048)

unfoldable pub state_count_at : List ℕ → ℕ → ℕ
state_count_at ns p = 22 + 4 * p + 5 * min (line_number_at ns (21 + 4 * p)) 2048

unfoldable pub expected_count : List ℕ → ℕ
expected_count ns =
    cond (eqb (line_number_at ns 0) 1) (settings_count_at ns (min (line_number_at ns 10) 2048)) (cond (eqb (line_number_at ns 0) 2) (state_count_at ns (min (line_number_at ns 20) 2048))
    (cond (eqb (line_number_at ns 0) 3) 2 (cond (eqb (line_number_at ns 0) 4) 3 (unwrap_or (words_place (line_number_at ns 0)) 0 + 6))))

-- ---- flags

abbrev pub is_flag : ℕ → Bool
is_flag n = leb n 1

-- the flags of the first i reads of a table that begins at w
unfoldable pub read_flags : List ℕ → ℕ → ℕ → Bool
read_flags ns w zero = true
read_flags ns w (suc i) = read_flags ns w i && is_flag (line_number_at ns (w + 5 * i))

unfoldable pub settings_flags : List ℕ → Bool
settings_flags ns = is_flag (line_number_at ns 7) && is_flag (line_number_at ns 9)

-- the flags of a line of kind 2 whose reads are counted at w
unfoldable pub state_flags_at : List ℕ → ℕ → Bool
state_flags_at ns w =
    is_flag (line_number_at ns 2) && is_flag (line_number_at ns 4) && is_flag (line_number_at ns 5) && is_flag (line_number_at ns 17) && read_flags ns (w + 5) (min (line_number_at ns w) 2048)

-- the flags of a message, with WORDS at w
unfoldable pub message_flags : List ℕ → ℕ → Bool
message_flags ns w = is_flag (line_number_at ns 2) && is_flag (line_number_at ns w) && is_flag (line_number_at ns (w + 1)) && is_flag (line_number_at ns (w + 3)) && is_flag (line_number_at ns (w + 4))

-- the flags of a line with WORDS at this place, if there are some
abbrev pub words_flags : List ℕ → Option ℕ → Bool
words_flags ns None = true
words_flags ns (Some w) = message_flags ns w

unfoldable pub flags_fit : List ℕ → Bool
flags_fit ns =
    cond (eqb (line_number_at ns 0) 1) (settings_flags ns) (cond (eqb (line_number_at ns 0) 2) (state_flags_at ns (21 + 4 * min (line_number_at ns 20) 2048))
    (words_flags ns (words_place (line_number_at ns 0))))

-- ---- mode, promise, table places

unfoldable pub mode_number_fits : List ℕ → Bool
mode_number_fits ns = cond (eqb (line_number_at ns 0) 1) (leb (line_number_at ns 6) 5) true

unfoldable pub promise_kind_fits : List ℕ → Bool
promise_kind_fits ns = cond (eqb (line_number_at ns 0) 2) (leb (line_number_at ns 8) 3) (cond (eqb (line_number_at ns 0) 5) (leb (line_number_at ns 7) 2) true)

unfoldable pub settings_places : List ℕ → Bool
settings_places ns = leb (min (line_number_at ns 10) 65) 64 && leb (line_number_at ns (11 + min (line_number_at ns 10) 65)) 64

-- the first i proposers
unfoldable pub proposers_fit : List ℕ → ℕ → Bool
proposers_fit ns zero = true
proposers_fit ns (suc i) = proposers_fit ns i && ltb (line_number_at ns (21 + 4 * i)) 64

-- the places of a line of kind 2 with p proposers
unfoldable pub state_places_at : List ℕ → ℕ → Bool
state_places_at ns p = leb p 64 && leb (line_number_at ns (21 + 4 * p)) 128 && proposers_fit ns p

unfoldable pub places_fit : List ℕ → Bool
places_fit ns = cond (eqb (line_number_at ns 0) 1) (settings_places ns) (cond (eqb (line_number_at ns 0) 2) (state_places_at ns (min (line_number_at ns 20) 65)) true)

-- ----

unfoldable pub numbers_fault : List ℕ → Result (Unit {0}) Fault
numbers_fault ns =
    cond (is_kind (line_number_at ns 0)) (cond (eqb (expected_count ns) (length ns)) (cond (flags_fit ns) (cond (mode_number_fits ns) (cond (promise_kind_fits ns)
    (cond (places_fit ns) (Ok tt) (Err PlaceAboveLimit)) (Err NoSuchPromise)) (Err NoSuchMode)) (Err NotFlag)) (Err WrongCount)) (Err UnknownKind)
