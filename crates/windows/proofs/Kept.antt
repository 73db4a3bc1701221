-- The minutes that are kept answer as the dates do.
-- Assumes nothing.
use Rattle.std.specs.Prelude.{Result, Ok, Err}
use mathlib.Core.Path.{◌≡◌, refl, sym, ap, ◌∙◌}
use mathlib.Core.List.{List, [], ◌∷◌, ◌++◌, map, map-append}
use Prim.Native.Nat.{ℕ, ◌+◌, ◌≤◌, ◌<◌}
use native.Mathlib.Numerals.{add-one}
use native.Mathlib.Omega.{arith}
use lib.ListN.{length, get_or, set, take, replicate, length-take, length-map, length-replicate}
use lib.Seq.{take_at, take-suc}
use borrow.Author.Tests.{le-leb}
use Rattle.std.proofs.lemmas.List.{take_all}
use Rattle.basics.specs.elements.Places.{at_front}
use Rattle.basics.proofs.elements.Lists.{front_push}
use Rattle.windows.specs.Windows.{start_of, end_of, agreed_windows, check_windows, ask_checked, ask_windows, window_check_number, minute_places, KeptArrays, made_of, kept_checked, kept_windows, kept_arrays, kept_of, check_kept, ask_kept}
use Rattle.windows.specs.declared.Window.{Window}
use Rattle.windows.specs.declared.Windows.{Windows}
use Rattle.windows.specs.declared.WindowRefusal.{WindowRefusal}
use Rattle.windows.specs.declared.WindowRefusal.TheVariants.{TooManyWindows, NotInCalendar}
use Rattle.windows.proofs.Turns.{made}

-- ---- the minutes of the first places, one more

module _ (minute_in : Window → ℕ) (ws : List Window) where
  map_more : (i : ℕ) (d : Window) → i < length ws → map minute_in (take (i + 1) ws) ≡ map minute_in (take i ws) ++ (minute_in (get_or ws i d) ∷ [])
  map_more i d more = rw add-one (ap (map minute_in) (take-suc ws i d more) ∙ map-append minute_in (take i ws) (get_or ws i d ∷ []))

  kept_more : (i : ℕ) (d : Window) → i < length ws → length ws ≤ 128
      → set (minute_places (map minute_in (take i ws))) i (minute_in (get_or ws i d)) ≡ minute_places (map minute_in (take (i + 1) ws))
  kept_more i d more few =
      let enough : length (map minute_in (take i ws)) ≡ i = length-map (take i ws) minute_in ∙ (length-take i ws ∙ omega arith) in
      let room : i < length {A = ℕ} (replicate 128 0) = rw length-replicate (omega arith) in
      front_push (map minute_in (take i ws)) (replicate 128 0) i (minute_in (get_or ws i d)) enough room ∙ ap minute_places (sym (map_more i d more))

  kept_all : (i : ℕ) → length ws ≤ i → minute_places (map minute_in (take i ws)) ≡ minute_places (map minute_in ws)
  kept_all i over = ap (λ (l : List Window). minute_places (map minute_in l)) (take_all i ws over)

pub count_few : (ws : Windows) → check_windows ws ≡ Ok tt → ws.count ≤ 128
count_few ws e = (made ws e).few

pub agreed_length : (ws : Windows) → length ws.places ≡ 128 → check_windows ws ≡ Ok tt → length (take ws.count ws.places) ≡ ws.count
agreed_length ws long e = let m = made ws e in length-take ws.count ws.places ∙ omega (arith, m.few)

pub starts_next : (ws : List Window) (i : ℕ) (d : Window) → i < length ws → length ws ≤ 128
    → set (minute_places (map start_of (take i ws))) i (start_of (get_or ws i d)) ≡ minute_places (map start_of (take (i + 1) ws))
starts_next ws i d h few = kept_more start_of ws i d h few

pub ends_next : (ws : List Window) (i : ℕ) (d : Window) → i < length ws → length ws ≤ 128
    → set (minute_places (map end_of (take i ws))) i (end_of (get_or ws i d)) ≡ minute_places (map end_of (take (i + 1) ws))
ends_next ws i d h few = kept_more end_of ws i d h few

pub starts_all : (ws : List Window) (i : ℕ) → length ws ≤ i → minute_places (map start_of (take i ws)) ≡ minute_places (map start_of ws)
starts_all ws i h = kept_all start_of ws i h

pub ends_all : (ws : List Window) (i : ℕ) → length ws ≤ i → minute_places (map end_of (take i ws)) ≡ minute_places (map end_of ws)
ends_all ws i h = kept_all end_of ws i h

-- ---- what is kept of windows that are made

pub kept_made : (ws : Windows) → check_windows ws ≡ Ok tt → kept_windows ws ≡ Ok (made_of (agreed_windows ws))
unfolding kept_windows kept_checked
kept_made ws is_made = simp is_made

pub kept_refused_first : (ws : Windows) (why : WindowRefusal) → check_windows ws ≡ Err why → kept_windows ws ≡ Err why
unfolding kept_windows kept_checked
kept_refused_first ws why refused = simp refused

-- ---- the answer

in_front_lem : (minutes : List ℕ) (n : ℕ) → length minutes ≡ n → take n (minute_places minutes) ≡ minutes
unfolding at_front
in_front_lem minutes n e = take_at minutes _ n e

-- the check can be told from what is kept
check_told : (ws : Windows) (c : Result (Unit {0}) WindowRefusal) → check_windows ws ≡ c → check_kept (kept_arrays (kept_checked c (agreed_windows ws))) ≡ c
unfolding check_kept kept_checked
check_told ws (Ok u) e =
    let m = made ws e in
    let few : length (agreed_windows ws) ≤ 128 = rw length-take (omega arith) in
    simp (le-leb (length (agreed_windows ws)) 128 few)
check_told ws (Err TooManyWindows) e = refl
check_told ws (Err NotInCalendar) e = refl

pub kept_check : (ws : Windows) → check_kept (kept_of ws) ≡ check_windows ws
unfolding kept_of kept_windows
kept_check ws = check_told ws (check_windows ws) refl

checked_number : (c : Result (Unit {0}) WindowRefusal) (ws : List Window) → (kept_arrays (kept_checked c ws)).number ≡ window_check_number c
unfolding kept_checked
checked_number (Ok u) ws = refl
checked_number (Err why) ws = refl

-- the number that is kept is that of the check
pub kept_number : (ws : Windows) → (kept_of ws).number ≡ window_check_number (check_windows ws)
unfolding kept_of kept_windows
kept_number ws = checked_number (check_windows ws) (agreed_windows ws)

checked_answers : (c : Result (Unit {0}) WindowRefusal) (ws : List Window) (minute : ℕ)
    → ask_checked c (take (kept_arrays (kept_checked c ws)).count (kept_arrays (kept_checked c ws)).starts)
    (take (kept_arrays (kept_checked c ws)).count (kept_arrays (kept_checked c ws)).ends) minute
    ≡ ask_checked c (map start_of ws) (map end_of ws) minute
unfolding ask_checked kept_checked
checked_answers (Ok u) ws minute =
    simp (in_front_lem (map start_of ws) (length ws) (length-map ws start_of), in_front_lem (map end_of ws) (length ws) (length-map ws end_of))
checked_answers (Err why) ws minute = refl

-- what is kept of windows answers a question as the windows do
pub kept_answers : (ws : Windows) (minute : ℕ) → ask_kept (kept_of ws) minute ≡ ask_windows ws minute
unfolding ask_kept kept_of kept_windows ask_windows
kept_answers ws minute =
    let k : KeptArrays = kept_arrays (kept_windows ws) in
    ap (λ (c : Result (Unit {0}) WindowRefusal). ask_checked c (take k.count k.starts) (take k.count k.ends) minute) (check_told ws (check_windows ws) refl)
    ∙ checked_answers (check_windows ws) (agreed_windows ws) minute
