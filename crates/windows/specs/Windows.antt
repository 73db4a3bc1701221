-- Change windows (document 02, E8).
-- Assumes nothing.
use Rattle.std.specs.Prelude.{◌≡◌, Result, Ok, Err, Bool, true, cond, ◌&&◌, List, map, ℕ, ◌≤◌, ◌<◌, eqb, ltb, leb, length, get_or, take, replicate}
use Rattle.std.specs.List.{list_all, list_any, zip, fold}
use Rattle.basics.specs.Lists.{In}
use Rattle.basics.specs.elements.Places.{at_front}
use Rattle.basics.specs.refusals.Refusals.{refusal}
use Rattle.calendar.specs.Calendar.{is_date, minute_of}
use Rattle.windows.specs.declared.Window.{Window}
use Rattle.windows.specs.declared.Windows.{Windows}
use Rattle.windows.specs.declared.KeptWindows.{KeptWindows}
use Rattle.windows.specs.declared.WindowRefusal.{WindowRefusal}
use Rattle.windows.specs.declared.WindowRefusal.TheVariants.{TooManyWindows, NotInCalendar}
use Rattle.windows.specs.declared.WindowAnswer.{WindowAnswer}
use Rattle.windows.specs.declared.WindowAnswer.TheVariants.{Inside, Next, NoneFollows}

-- a window's first minute and its last, by its dates
abbrev pub start_of : Window → ℕ
start_of w = minute_of w.start

abbrev pub end_of : Window → ℕ
end_of w = minute_of w.end

-- ---- the check, when settings are made

-- "17, a date that the calendar or those years lack, a time outside the day, or a window whose end is not after its start"
unfoldable pub is_window : Window → Bool
is_window w = is_date w.start && is_date w.end && ltb (start_of w) (end_of w)

unfoldable pub all_fit : List Window → Bool
all_fit ws = list_all is_window ws

-- "up to 128 windows": those in the first places
abbrev pub agreed_windows : Windows → List Window
agreed_windows ws = take ws.count ws.places

-- "More than 128 windows give 1"; "17, .. checked when settings are made, after 1"
unfoldable pub check_windows : Windows → Result (Unit {0}) WindowRefusal
check_windows ws =
    cond (ltb 128 ws.count) (Err TooManyWindows) (cond (all_fit (agreed_windows ws)) (Ok tt) (Err NotInCalendar))

-- ---- the question, by the minutes in which the windows start and end

-- "The first minute belongs to the window and the last does not."
unfoldable pub holds_minute : ℕ → ℕ → ℕ → Bool
holds_minute minute start end = leb start minute && ltb minute end

-- "whether it is inside some window"
unfoldable pub some_holds : ℕ → List ℕ → List ℕ → Bool
some_holds minute starts ends = list_any (λ p. holds_minute minute p.0 p.1) (zip starts ends)

-- a start, where it is after the minute and nearer than the nearest one so far
unfoldable pub nearer : ℕ → ℕ → ℕ → ℕ
nearer minute start nearest = cond (ltb minute start) (cond (ltb start nearest) start nearest) nearest

unfoldable pub nearest_start : ℕ → List ℕ → ℕ → ℕ
nearest_start minute starts nearest = fold (λ n start. nearer minute start n) nearest starts

-- "otherwise the first minute of the nearest later one, or that none follows": no window begins past the year 9999
unfoldable pub next_after : ℕ → WindowAnswer
next_after nearest = cond (ltb nearest 4223371680) (Next nearest) NoneFollows

-- "a minute past the year 9999, however large, has no date and gives 17, also when asked of windows"
unfoldable pub ask_minutes : List ℕ → List ℕ → ℕ → Result WindowAnswer WindowRefusal
ask_minutes starts ends minute =
    cond (leb 4223371680 minute) (Err NotInCalendar)
    (cond (some_holds minute starts ends) (Ok Inside) (Ok (next_after (nearest_start minute starts 4223371680))))

-- windows that are not made give their number before anything else
unfoldable pub ask_checked : Result (Unit {0}) WindowRefusal → List ℕ → List ℕ → ℕ → Result WindowAnswer WindowRefusal
ask_checked (Ok u) starts ends minute = ask_minutes starts ends minute
ask_checked (Err why) starts ends minute = Err why

-- a minute asked of windows
unfoldable pub ask_windows : Windows → ℕ → Result WindowAnswer WindowRefusal
ask_windows ws minute = ask_checked (check_windows ws) (map start_of (agreed_windows ws)) (map end_of (agreed_windows ws)) minute

-- ---- document 02's numbers

abbrev pub window_refusal_number : WindowRefusal → ℕ
window_refusal_number TooManyWindows = 1
window_refusal_number NotInCalendar = 17

-- the number of what the check or a question gives, and 0 where it gives none
abbrev pub window_check_number : {T : Type 0} → Result T WindowRefusal → ℕ
window_check_number given = refusal window_refusal_number given

-- ---- what is kept for questions

-- 128 places, the first of which hold these minutes
abbrev pub minute_places : List ℕ → List ℕ
minute_places minutes = at_front minutes (replicate 128 0)

-- what stands in arrays of numbers: the number of the check, and how many windows there are, are the two figures
pub record KeptArrays : Type 0 where
  pub starts : List ℕ
  pub ends : List ℕ
  pub number : ℕ
  pub count : ℕ

abbrev pub kept_in : List ℕ → List ℕ → List ℕ → KeptArrays
kept_in starts ends figures = record { starts = starts; ends = ends; number = get_or figures 0 0; count = get_or figures 1 0 }

-- no window, and the number
abbrev pub no_windows : ℕ → KeptArrays
no_windows number = record { starts = replicate 128 0; ends = replicate 128 0; number = number; count = 0 }

-- windows that are made: how many there are, and the minutes in which they start and end
abbrev pub made_of : List Window → KeptWindows
made_of ws = record { starts = minute_places (map start_of ws); ends = minute_places (map end_of ws); count = length ws }

unfoldable pub kept_checked : Result (Unit {0}) WindowRefusal → List Window → Result KeptWindows WindowRefusal
kept_checked (Ok u) ws = Ok (made_of ws)
kept_checked (Err why) ws = Err why

-- windows that are not made keep nothing but why
unfoldable pub kept_windows : Windows → Result KeptWindows WindowRefusal
kept_windows ws = kept_checked (check_windows ws) (agreed_windows ws)

-- what is kept, as it stands in arrays
abbrev pub kept_arrays : Result KeptWindows WindowRefusal → KeptArrays
kept_arrays (Ok k) = record { starts = k.starts; ends = k.ends; number = 0; count = k.count }
kept_arrays (Err why) = no_windows (window_refusal_number why)

-- the number of the check, and of windows that are made how many there are and the minutes in which they start and end
unfoldable pub kept_of : Windows → KeptArrays
kept_of ws = kept_arrays (kept_windows ws)

-- the check by its number, whatever is kept: 17 is 17, and any other but 0 is 1
unfoldable pub check_kept : KeptArrays → Result (Unit {0}) WindowRefusal
check_kept k =
    cond (eqb k.number 17) (Err NotInCalendar)
    (cond (eqb k.number 0) (cond (leb k.count 128) (Ok tt) (Err TooManyWindows)) (Err TooManyWindows))

-- a minute asked of what is kept
unfoldable pub ask_kept : KeptArrays → ℕ → Result WindowAnswer WindowRefusal
ask_kept k minute = ask_checked (check_kept k) (take k.count k.starts) (take k.count k.ends) minute

-- ---- the words of the laws

-- both dates are in the calendar, and the end is after the start
pub record Fitting (w : Window) : Type 0 where
  pub start_date : is_date w.start ≡ true
  pub end_date : is_date w.end ≡ true
  pub start_first : start_of w < end_of w

-- each of the windows is so; or some one is not
abbrev pub AllFitting : List Window → Type 0
AllFitting ws = (w : Window) → In w ws → Fitting w

abbrev pub SomeUnfitting : List Window → Type 0
SomeUnfitting ws = (w : Window) × (In w ws × (Fitting w → ⊥))

-- the check in words: at most 128 windows, and each is so; more than 128; or at most 128, and some one is not
abbrev pub CheckedWindows : Windows → Result (Unit {0}) WindowRefusal → Type 0
CheckedWindows ws (Ok made) = (ws.count ≤ 128) × AllFitting (agreed_windows ws)
CheckedWindows ws (Err TooManyWindows) = 128 < ws.count
CheckedWindows ws (Err NotInCalendar) = (ws.count ≤ 128) × SomeUnfitting (agreed_windows ws)

-- the minute is in the window
abbrev pub InWindow : ℕ → Window → Type 0
InWindow minute w = (start_of w ≤ minute) × (minute < end_of w)

-- next is a start after the minute, and no start after it is nearer
pub record NextStart (minute : ℕ) (ws : List Window) (next : ℕ) : Type 0 where
  pub is_start : (w : Window) × (In w ws × (start_of w ≡ next))
  pub later : minute < next
  pub none_nearer : (w : Window) → In w ws → minute < start_of w → next ≤ start_of w
