-- What windows that are made have, and the nearest start as the code finds it.
-- Assumes nothing.
use Rattle.std.specs.Prelude.{Result, Ok, Err}
use mathlib.Core.Path.{◌≡◌, refl, sym}
use mathlib.Core.Bool.{Bool, true, false, ◌&&◌}
use mathlib.Core.List.{List, [], ◌∷◌}
use mathlib.Core.Logic.{◌⊎◌, inl, inr}
use Prim.Native.Nat.{ℕ, zero, suc, ◌≤◌, ◌<◌}
use native.Mathlib.Omega.{arith}
use lib.Dec.{ltb}
use Rattle.std.specs.Prelude.{Option, Some, None, min, cond}
use Rattle.std.specs.List.{filter, fold, reduce}
use lib.ListN.{length, get_or}
use borrow.Author.Tests.{ltb-true, ltb-false, lt-ltb}
use Rattle.basics.proofs.Tests.{either, and_left, and_right}
use Rattle.calendar.specs.Calendar.{is_date}
use Rattle.windows.specs.Windows.{start_of, end_of, is_window, all_fit, agreed_windows, check_windows, nearer, nearest_start}
use Rattle.windows.specs.declared.Window.{Window}
use Rattle.windows.specs.declared.Windows.{Windows}
use Rattle.windows.specs.declared.WindowRefusal.{WindowRefusal}
use Rattle.windows.specs.declared.WindowRefusal.TheVariants.{TooManyWindows, NotInCalendar}

-- ---- what windows that are made have

pub record MadeWindows (ws : Windows) : Type 0 where
  pub few : ws.count ≤ 128
  pub fitting : all_fit (agreed_windows ws) ≡ true

pub made : (ws : Windows) → check_windows ws ≡ Ok tt → MadeWindows ws
unfolding check_windows
made ws e = go (either (ltb 128 ws.count)) (either (all_fit (agreed_windows ws)))
  where
    go : (ltb 128 ws.count ≡ true) ⊎ (ltb 128 ws.count ≡ false) → (all_fit (agreed_windows ws) ≡ true) ⊎ (all_fit (agreed_windows ws) ≡ false) → MadeWindows ws
    go (inl a) b = let f : ◌≡◌ {A = Result (Unit {0}) WindowRefusal} (Err TooManyWindows) (Ok tt) = simp a at e in cc
    go (inr a) (inl b) = record { few = ltb-false 128 ws.count a; fitting = b }
    go (inr a) (inr b) = let f : ◌≡◌ {A = Result (Unit {0}) WindowRefusal} (Err NotInCalendar) (Ok tt) = simp (a, b) at e in cc

pub start_fits : (w : Window) → is_window w ≡ true → is_date w.start ≡ true
unfolding is_window
start_fits w t =
    and_left (is_date w.start) (is_date w.end) (and_left (is_date w.start && is_date w.end) (ltb (start_of w) (end_of w)) t)

pub end_fits : (w : Window) → is_window w ≡ true → is_date w.end ≡ true
unfolding is_window
end_fits w t =
    and_right (is_date w.start) (is_date w.end) (and_left (is_date w.start && is_date w.end) (ltb (start_of w) (end_of w)) t)

-- each of them fits
pub fits_at : (ws : List Window) (i : ℕ) (d : Window) → all_fit ws ≡ true → i < length ws → is_window (get_or ws i d) ≡ true
unfolding all_fit
fits_at [] i d t more = absurd (omega arith)
fits_at (w ∷ ws) zero d t more = and_left (is_window w) (all_fit ws) t
fits_at (w ∷ ws) (suc i) d t more = fits_at ws i d (and_right (is_window w) (all_fit ws) t) (omega arith)

-- ---- the nearest start

module _ (minute : ℕ) where
  -- whether a window that begins here is later, within the years
  abbrev later : ℕ → Bool
  later start = ltb minute start && ltb start 4223371680

  abbrev found : ℕ → Option ℕ
  found nearest = cond (ltb nearest 4223371680) (Some nearest) None

  -- once a start is found, the nearest one is the least
  nearest_kept : (starts : List ℕ) (n : ℕ) → n < 4223371680 → Some (fold min n (filter later starts)) ≡ found (nearest_start minute starts n)
  unfolding nearest_start nearer
  nearest_kept [] n h = simp (lt-ltb n 4223371680 h)
  nearest_kept (s ∷ starts) n h = go (either (ltb minute s)) (either (ltb s 4223371680)) (either (ltb s n)) (nearest_kept starts)
    where
      go : (ltb minute s ≡ true) ⊎ (ltb minute s ≡ false) → (ltb s 4223371680 ≡ true) ⊎ (ltb s 4223371680 ≡ false) → (ltb s n ≡ true) ⊎ (ltb s n ≡ false)
          → ((m : ℕ) → m < 4223371680 → Some (fold min m (filter later starts)) ≡ found (nearest_start minute starts m))
          → Some (fold min n (filter later (s ∷ starts))) ≡ found (nearest_start minute (s ∷ starts) n)
      go (inl a) (inl b) (inl c) rest =
          let least : min n s ≡ s = omega (arith, ltb-true s n c) in
          simp (a, b, c, least) (rest s (ltb-true s 4223371680 b))
      go (inl a) (inl b) (inr c) rest =
          let least : min n s ≡ n = omega (arith, ltb-false s n c) in
          simp (a, b, c, least) (rest n h)
      go (inl a) (inr b) (inl c) rest = absurd (omega (arith, ltb-true s n c, ltb-false s 4223371680 b))
      go (inl a) (inr b) (inr c) rest = simp (a, b, c) (rest n h)
      go (inr a) b c rest = simp a (rest n h)

  nearest_found : (starts : List ℕ) → reduce min (filter (λ start. ltb minute start && ltb start 4223371680) starts) ≡ found (nearest_start minute starts 4223371680)
  unfolding nearest_start nearer
  nearest_found [] = refl
  nearest_found (s ∷ starts) = go (either (ltb minute s)) (either (ltb s 4223371680)) (nearest_found starts)
    where
      go : (ltb minute s ≡ true) ⊎ (ltb minute s ≡ false) → (ltb s 4223371680 ≡ true) ⊎ (ltb s 4223371680 ≡ false)
          → reduce min (filter later starts) ≡ found (nearest_start minute starts 4223371680)
          → reduce min (filter later (s ∷ starts)) ≡ found (nearest_start minute (s ∷ starts) 4223371680)
      go (inl a) (inl b) rest = simp (a, b) (nearest_kept starts s (ltb-true s 4223371680 b))
      go (inl a) (inr b) rest = simp (a, b) rest
      go (inr a) b rest = simp a rest

  -- the nearest one, if it is in the calendar, is the least of those that are later
  pub nearest_least : (starts : List ℕ) → found (nearest_start minute starts 4223371680) ≡ reduce min (filter (λ start. ltb minute start && ltb start 4223371680) starts)
  nearest_least starts = sym (nearest_found starts)
