-- What the check and the question answer: "whether it is inside some window, and otherwise the first minute of the nearest later one, or that
-- none follows".
-- Assumes nothing.
use Rattle.std.specs.Prelude.{Result, Ok, Err}
use mathlib.Core.Path.{◌≡◌, refl, sym, ap, subst, ◌∙◌}
use mathlib.Core.Bool.{Bool, true, false, cond, ◌&&◌}
use mathlib.Core.List.{List, [], ◌∷◌, map}
use mathlib.Core.Logic.{◌⊎◌, inl, inr}
use Prim.Native.Nat.{ℕ, ◌≤◌, ◌<◌}
use native.Mathlib.Nat.{le_trans, le_refl}
use native.Mathlib.Omega.{arith}
use lib.Dec.{ltb, leb}
use borrow.Author.Tests.{ltb-true, ltb-false, leb-true, lt-ltb, le-ltb, le-leb, lt-leb}
use Rattle.basics.specs.Lists.{In}
use Rattle.basics.proofs.Tests.{either, fails, not_both, and_left, and_right, and_both, or_cases, or_left, or_right}
use Rattle.calendar.specs.Calendar.{is_date}
use Rattle.calendar.proofs.Dates.{numbers, minute_bound}
use Rattle.windows.specs.Windows.{start_of, end_of, is_window, all_fit, agreed_windows, check_windows, holds_minute, some_holds, nearer, nearest_start, next_after, ask_minutes, ask_checked, ask_windows, window_check_number, Fitting, AllFitting, SomeUnfitting, CheckedWindows, InWindow, NextStart}
use Rattle.windows.specs.declared.Window.{Window}
use Rattle.windows.specs.declared.Windows.{Windows}
use Rattle.windows.specs.declared.WindowRefusal.{WindowRefusal}
use Rattle.windows.specs.declared.WindowRefusal.TheVariants.{TooManyWindows, NotInCalendar}
use Rattle.windows.specs.declared.WindowAnswer.{WindowAnswer}
use Rattle.windows.specs.declared.WindowAnswer.TheVariants.{Inside, Next, NoneFollows}
use Rattle.windows.proofs.Turns.{made, start_fits, end_fits}

-- ---- the check

fitting : (w : Window) → is_window w ≡ true → Fitting w
unfolding is_window
fitting w t =
    record {
      start_date = start_fits w t;
      end_date = end_fits w t;
      start_first = ltb-true (start_of w) (end_of w) (and_right (is_date w.start && is_date w.end) (ltb (start_of w) (end_of w)) t);
    }

fits_so : (w : Window) → Fitting w → is_window w ≡ true
unfolding is_window
fits_so w f = and_both (and_both f.start_date f.end_date) (lt-ltb (start_of w) (end_of w) f.start_first)

each_fits : (ws : List Window) → all_fit ws ≡ true → (w : Window) → In w ws → is_window w ≡ true
unfolding all_fit
each_fits [] t w i = absurd i
each_fits (v ∷ ws) t w (inl e) = ap is_window e ∙ and_left (is_window v) (all_fit ws) t
each_fits (v ∷ ws) t w (inr i) = each_fits ws (and_right (is_window v) (all_fit ws) t) w i

all_fit_so : (ws : List Window) → ((w : Window) → In w ws → is_window w ≡ true) → all_fit ws ≡ true
unfolding all_fit
all_fit_so [] h = refl
all_fit_so (v ∷ ws) h = and_both (h v (inl refl)) (all_fit_so ws (λ w i. h w (inr i)))

one_unfitting : (ws : List Window) → all_fit ws ≡ false → SomeUnfitting ws
unfolding all_fit
one_unfitting [] f = absurd (not_both refl f)
one_unfitting (v ∷ ws) f = go (either (is_window v)) (λ u. one_unfitting ws u)
  where
    go : (is_window v ≡ true) ⊎ (is_window v ≡ false) → (all_fit ws ≡ false → SomeUnfitting ws) → SomeUnfitting (v ∷ ws)
    go (inl t) rest = let (w, (i, unfitting)) = rest (ap (λ (b : Bool). b && all_fit ws) (sym t) ∙ f) in (w, (inr i, unfitting))
    go (inr u) rest = (v, (inl refl, λ fit. not_both (fits_so v fit) u))

-- what the check gives is so, and no other answer is given
pub checked_windows_lem : (ws : Windows) → CheckedWindows ws (check_windows ws)
unfolding check_windows
checked_windows_lem ws = go (ltb 128 ws.count) (all_fit (agreed_windows ws)) refl refl
  where
    go : (t u : Bool) → ltb 128 ws.count ≡ t → all_fit (agreed_windows ws) ≡ u → CheckedWindows ws (cond t (Err TooManyWindows) (cond u (Ok tt) (Err NotInCalendar)))
    go true u e f = ltb-true 128 ws.count e
    go false true e f = (ltb-false 128 ws.count e, λ w i. fitting w (each_fits (agreed_windows ws) f w i))
    go false false e f = (ltb-false 128 ws.count e, one_unfitting (agreed_windows ws) f)

-- "More than 128 windows give 1", whatever they are
pub too_many : (ws : Windows) → 128 < ws.count → window_check_number (check_windows ws) ≡ 1
unfolding check_windows
too_many ws h = simp (lt-ltb 128 ws.count h)

-- windows are made exactly where there are at most 128 and each is one
pub made_only : (ws : Windows) → check_windows ws ≡ Ok tt → (ws.count ≤ 128) × AllFitting (agreed_windows ws)
made_only ws e = let m = made ws e in (m.few, λ w i. fitting w (each_fits (agreed_windows ws) m.fitting w i))

pub made_always : (ws : Windows) → ws.count ≤ 128 → AllFitting (agreed_windows ws) → check_windows ws ≡ Ok tt
unfolding check_windows
made_always ws few h = simp (le-ltb 128 ws.count few, all_fit_so (agreed_windows ws) (λ w i. fits_so w (h w i)))

-- and give 17 where one is none
pub not_a_window : (ws : Windows) → ws.count ≤ 128 → (w : Window) → In w (agreed_windows ws) → (Fitting w → ⊥) → window_check_number (check_windows ws) ≡ 17
unfolding check_windows
not_a_window ws few w i h =
    simp (le-ltb 128 ws.count few, fails {t = all_fit (agreed_windows ws)} (λ t. h (fitting w (each_fits (agreed_windows ws) t w i))))

-- only the windows below the count are looked at: what stands in the other places changes no answer
module _ (a b : Windows) (same_count : a.count ≡ b.count) (same-windows : agreed_windows a ≡ agreed_windows b) where
  pub same_check : check_windows a ≡ check_windows b
  unfolding check_windows
  same_check =
      let ok : Result (Unit {0}) WindowRefusal = Ok tt in
      ap (λ (n : ℕ). cond (ltb 128 n) (Err TooManyWindows) (cond (all_fit (agreed_windows a)) ok (Err NotInCalendar))) same_count
      ∙ ap (λ (l : List Window). cond (ltb 128 b.count) (Err TooManyWindows) (cond (all_fit l) ok (Err NotInCalendar))) same-windows

  pub same_answer : (minute : ℕ) → ask_windows a minute ≡ ask_windows b minute
  unfolding ask_windows
  same_answer minute =
      ap (λ (c : Result (Unit {0}) WindowRefusal). ask_checked c (map start_of (agreed_windows a)) (map end_of (agreed_windows a)) minute) same_check
      ∙ ap (λ (l : List Window). ask_checked (check_windows b) (map start_of l) (map end_of l) minute) same-windows

-- ---- a minute inside a window

-- the question over windows in place of their minutes
abbrev one_holds : ℕ → List Window → Bool
one_holds minute ws = some_holds minute (map start_of ws) (map end_of ws)

abbrev nearest_of : ℕ → List Window → ℕ → ℕ
nearest_of minute ws nearest = nearest_start minute (map start_of ws) nearest

holding : (minute : ℕ) (w : Window) → holds_minute minute (start_of w) (end_of w) ≡ true → InWindow minute w
unfolding holds_minute
holding minute w t =
    (leb-true (start_of w) minute (and_left (leb (start_of w) minute) (ltb minute (end_of w)) t), ltb-true minute (end_of w) (and_right (leb (start_of w) minute) (ltb minute (end_of w)) t))

holds_so : (minute : ℕ) (w : Window) → InWindow minute w → holds_minute minute (start_of w) (end_of w) ≡ true
unfolding holds_minute
holds_so minute w (a, b) = and_both (le-leb (start_of w) minute a) (lt-ltb minute (end_of w) b)

one_of : (minute : ℕ) (ws : List Window) → one_holds minute ws ≡ true → (w : Window) × (In w ws × InWindow minute w)
unfolding some_holds
one_of minute [] t = absurd (not_both t refl)
one_of minute (v ∷ ws) t = go (or_cases (holds_minute minute (start_of v) (end_of v)) (one_holds minute ws) t) (λ u. one_of minute ws u)
  where
    go : (holds_minute minute (start_of v) (end_of v) ≡ true) ⊎ (one_holds minute ws ≡ true) → (one_holds minute ws ≡ true → (w : Window) × (In w ws × InWindow minute w))
        → (w : Window) × (In w (v ∷ ws) × InWindow minute w)
    go (inl h) rest = (v, (inl refl, holding minute v h))
    go (inr h) rest = let r = rest h in (r.0, (inr r.1.0, r.1.1))

some_so : (minute : ℕ) (ws : List Window) (w : Window) → In w ws → InWindow minute w → one_holds minute ws ≡ true
unfolding some_holds
some_so minute [] w i h = absurd i
some_so minute (v ∷ ws) w (inl e) h = or_left (one_holds minute ws) (ap (λ (x : Window). holds_minute minute (start_of x) (end_of x)) (sym e) ∙ holds_so minute w h)
some_so minute (v ∷ ws) w (inr i) h = or_right (holds_minute minute (start_of v) (end_of v)) (some_so minute ws w i h)

-- no window holds the last minute of the year 9999: no end after it can be written
pub never_last : (ws : Windows) → check_windows ws ≡ Ok tt → (w : Window) → In w (agreed_windows ws) → InWindow 4223371679 w → ⊥
never_last ws e w i h =
    let bound = minute_bound w.end (numbers w.end (end_fits w (each_fits (agreed_windows ws) (made ws e).fitting w i))) in
    let past = h.1 in
    omega arith

-- ---- the nearest start after a minute

module _ (minute : ℕ) where
  nearer_le : (w : Window) (n : ℕ) → nearer minute (start_of w) n ≤ n
  unfolding nearer
  nearer_le w n = go (either (ltb minute (start_of w))) (either (ltb (start_of w) n))
    where
      go : (ltb minute (start_of w) ≡ true) ⊎ (ltb minute (start_of w) ≡ false) → (ltb (start_of w) n ≡ true) ⊎ (ltb (start_of w) n ≡ false)
          → cond (ltb minute (start_of w)) (cond (ltb (start_of w) n) (start_of w) n) n ≤ n
      go (inl a) (inl b) = let l = ltb-true (start_of w) n b in simp (a, b) (omega arith)
      go (inl a) (inr b) = simp (a, b) (le_refl _)
      go (inr a) b = simp a (le_refl _)

  nearer_start : (w : Window) (n : ℕ) → minute < start_of w → nearer minute (start_of w) n ≤ start_of w
  unfolding nearer
  nearer_start w n h = go (either (ltb (start_of w) n))
    where
      go : (ltb (start_of w) n ≡ true) ⊎ (ltb (start_of w) n ≡ false) → cond (ltb minute (start_of w)) (cond (ltb (start_of w) n) (start_of w) n) n ≤ start_of w
      go (inl b) = simp (lt-ltb minute (start_of w) h, b) (le_refl _)
      go (inr b) = let l = ltb-false (start_of w) n b in simp (lt-ltb minute (start_of w) h, b) l

  nearer_which : (w : Window) (n : ℕ) → (nearer minute (start_of w) n ≡ n) ⊎ ((nearer minute (start_of w) n ≡ start_of w) × (minute < start_of w))
  unfolding nearer
  nearer_which w n = go (either (ltb minute (start_of w))) (either (ltb (start_of w) n))
    where
      go : (ltb minute (start_of w) ≡ true) ⊎ (ltb minute (start_of w) ≡ false) → (ltb (start_of w) n ≡ true) ⊎ (ltb (start_of w) n ≡ false)
          → (cond (ltb minute (start_of w)) (cond (ltb (start_of w) n) (start_of w) n) n ≡ n)
          ⊎ ((cond (ltb minute (start_of w)) (cond (ltb (start_of w) n) (start_of w) n) n ≡ start_of w) × (minute < start_of w))
      go (inl a) (inl b) = inr (simp (a, b), ltb-true minute (start_of w) a)
      go (inl a) (inr b) = inl (simp (a, b))
      go (inr a) b = inl (simp a)

  nearest_le : (ws : List Window) (n : ℕ) → nearest_of minute ws n ≤ n
  unfolding nearest_start
  nearest_le [] n = le_refl _
  nearest_le (w ∷ ws) n = le_trans (nearest_le ws (nearer minute (start_of w) n)) (nearer_le w n)

  -- it is at or before each start after the minute
  nearest_low : (ws : List Window) (n : ℕ) (w : Window) → In w ws → minute < start_of w → nearest_of minute ws n ≤ start_of w
  unfolding nearest_start
  nearest_low [] n w i h = absurd i
  nearest_low (v ∷ ws) n w (inl e) h =
      le_trans (nearest_le ws (nearer minute (start_of v) n)) (subst (λ (x : Window). nearer minute (start_of x) n ≤ start_of w) e (nearer_start w n h))
  nearest_low (v ∷ ws) n w (inr i) h = nearest_low ws (nearer minute (start_of v) n) w i h

  -- and the start of one of the windows
  nearest_which : (ws : List Window) (n : ℕ)
      → (nearest_of minute ws n ≡ n) ⊎ ((w : Window) × (In w ws × ((start_of w ≡ nearest_of minute ws n) × (minute < start_of w))))
  unfolding nearest_start
  nearest_which [] n = inl refl
  nearest_which (v ∷ ws) n = go (nearer_which v n) (nearest_which ws (nearer minute (start_of v) n))
    where
      go : (nearer minute (start_of v) n ≡ n) ⊎ ((nearer minute (start_of v) n ≡ start_of v) × (minute < start_of v))
          → (nearest_of minute ws (nearer minute (start_of v) n) ≡ nearer minute (start_of v) n)
          ⊎ ((w : Window) × (In w ws × ((start_of w ≡ nearest_of minute ws (nearer minute (start_of v) n)) × (minute < start_of w))))
          → (nearest_of minute ws (nearer minute (start_of v) n) ≡ n)
          ⊎ ((w : Window) × (In w (v ∷ ws) × ((start_of w ≡ nearest_of minute ws (nearer minute (start_of v) n)) × (minute < start_of w))))
      go a (inr (w, (i, s))) = inr (w, (inr i, s))
      go (inl a) (inl b) = inl (b ∙ a)
      go (inr (a, l)) (inl b) = inr (v, (inl refl, (sym (b ∙ a), l)))

-- ---- the question

-- windows that are not made give their number, whatever is asked
pub unmade_windows : (ws : Windows) (why : WindowRefusal) → check_windows ws ≡ Err why → (minute : ℕ) → ask_windows ws minute ≡ Err why
unfolding ask_windows ask_checked
unmade_windows ws why e minute = simp e

-- "a minute past the year 9999, however large, .. gives 17, also when asked of windows"
pub late : (ws : Windows) → check_windows ws ≡ Ok tt → (minute : ℕ) → 4223371680 ≤ minute → window_check_number (ask_windows ws minute) ≡ 17
unfolding ask_windows ask_checked ask_minutes
late ws e minute h = simp (e, le-leb 4223371680 minute h)

-- what follows a minute that no window holds
abbrev follows : ℕ → Result WindowAnswer WindowRefusal
follows nearest = Ok (next_after nearest)

-- the nearest start that there is, and none
next_of : (nearest : ℕ) → nearest < 4223371680 → follows nearest ≡ Ok (Next nearest)
unfolding next_after
next_of nearest h = simp (lt-ltb nearest 4223371680 h)

none_of : (nearest : ℕ) → 4223371680 ≤ nearest → follows nearest ≡ Ok NoneFollows
unfolding next_after
none_of nearest h = simp (le-ltb nearest 4223371680 h)

is_next : (nearest next : ℕ) → follows nearest ≡ Ok (Next next) → (nearest ≡ next) × (nearest < 4223371680)
is_next nearest next e = go (either (ltb nearest 4223371680))
  where
    go : (ltb nearest 4223371680 ≡ true) ⊎ (ltb nearest 4223371680 ≡ false) → (nearest ≡ next) × (nearest < 4223371680)
    go (inl t) = let l = ltb-true nearest 4223371680 t in let f = sym (next_of nearest l) ∙ e in (cc, l)
    go (inr t) = let f = sym (none_of nearest (ltb-false nearest 4223371680 t)) ∙ e in cc

is_none : (nearest : ℕ) → follows nearest ≡ Ok NoneFollows → 4223371680 ≤ nearest
is_none nearest e = go (either (ltb nearest 4223371680))
  where
    go : (ltb nearest 4223371680 ≡ true) ⊎ (ltb nearest 4223371680 ≡ false) → 4223371680 ≤ nearest
    go (inl t) = let f = sym (next_of nearest (ltb-true nearest 4223371680 t)) ∙ e in cc
    go (inr t) = ltb-false nearest 4223371680 t

not_inside : (nearest : ℕ) → follows nearest ≡ Ok Inside → ⊥
not_inside nearest e = go (either (ltb nearest 4223371680))
  where
    go : (ltb nearest 4223371680 ≡ true) ⊎ (ltb nearest 4223371680 ≡ false) → ⊥
    go (inl t) = let f = sym (next_of nearest (ltb-true nearest 4223371680 t)) ∙ e in cc
    go (inr t) = let f = sym (none_of nearest (ltb-false nearest 4223371680 t)) ∙ e in cc

module _ (ws : Windows) (is_made : check_windows ws ≡ Ok tt) (minute : ℕ) (in-years : minute < 4223371680) where
  -- by whether some window holds the minute
  asked_inside : one_holds minute (agreed_windows ws) ≡ true → ask_windows ws minute ≡ Ok Inside
  unfolding ask_windows ask_checked ask_minutes
  asked_inside t = simp (is_made, lt-leb 4223371680 minute in-years, t)

  asked_outside : one_holds minute (agreed_windows ws) ≡ false → ask_windows ws minute ≡ follows (nearest_of minute (agreed_windows ws) 4223371680)
  unfolding ask_windows ask_checked ask_minutes
  asked_outside t = simp (is_made, lt-leb 4223371680 minute in-years, t)

  start_bound : (w : Window) → In w (agreed_windows ws) → start_of w < 4223371680
  start_bound w i = minute_bound w.start (numbers w.start (start_fits w (each_fits (agreed_windows ws) (made ws is_made).fitting w i)))

  -- inside exactly where some window holds the minute
  pub inside_only : ask_windows ws minute ≡ Ok Inside → (w : Window) × (In w (agreed_windows ws) × InWindow minute w)
  inside_only e = go (either (one_holds minute (agreed_windows ws)))
    where
      go : (one_holds minute (agreed_windows ws) ≡ true) ⊎ (one_holds minute (agreed_windows ws) ≡ false) → (w : Window) × (In w (agreed_windows ws) × InWindow minute w)
      go (inl t) = one_of minute (agreed_windows ws) t
      go (inr t) = absurd (not_inside (nearest_of minute (agreed_windows ws) 4223371680) (sym (asked_outside t) ∙ e))

  pub inside_always : (w : Window) → In w (agreed_windows ws) → InWindow minute w → ask_windows ws minute ≡ Ok Inside
  inside_always w i h = asked_inside (some_so minute (agreed_windows ws) w i h)

  outside : (ask_windows ws minute ≡ Ok Inside → ⊥) → ask_windows ws minute ≡ follows (nearest_of minute (agreed_windows ws) 4223371680)
  outside h = asked_outside (fails {t = one_holds minute (agreed_windows ws)} (λ t. h (asked_inside t)))

  -- the next is a start after it and no start after it is nearer
  pub next_only : (next : ℕ) → ask_windows ws minute ≡ Ok (Next next) → NextStart minute (agreed_windows ws) next
  next_only next e = from (is_next nearest next (sym (outside (λ f. let g = sym f ∙ e in cc)) ∙ e)) (nearest_which minute (agreed_windows ws) 4223371680)
    where
      nearest : ℕ
      nearest = nearest_of minute (agreed_windows ws) 4223371680

      from : (nearest ≡ next) × (nearest < 4223371680)
          → (nearest ≡ 4223371680) ⊎ ((w : Window) × (In w (agreed_windows ws) × ((start_of w ≡ nearest) × (minute < start_of w))))
          → NextStart minute (agreed_windows ws) next
      from (f, l) (inl g) = absurd (omega arith)
      from (f, l) (inr (w, (i, (s, a)))) =
          record {
            is_start = (w, (i, s ∙ f));
            later = subst (λ (x : ℕ). minute < x) (s ∙ f) a;
            none_nearer = λ v j h. subst (λ (x : ℕ). x ≤ start_of v) f (nearest_low minute (agreed_windows ws) 4223371680 v j h);
          }

  -- none exactly where no start is after it, and it is inside no window
  pub none_only : ask_windows ws minute ≡ Ok NoneFollows → (w : Window) → In w (agreed_windows ws) → start_of w ≤ minute
  none_only e w i = go (either (ltb minute (start_of w)))
    where
      go : (ltb minute (start_of w) ≡ true) ⊎ (ltb minute (start_of w) ≡ false) → start_of w ≤ minute
      go (inl t) =
          let low = nearest_low minute (agreed_windows ws) 4223371680 w i (ltb-true minute (start_of w) t) in
          let none = is_none (nearest_of minute (agreed_windows ws) 4223371680) (sym (outside (λ f. let g = sym f ∙ e in cc)) ∙ e) in
          let bound = start_bound w i in
          absurd (omega arith)
      go (inr t) = ltb-false minute (start_of w) t

  pub none_always : ((w : Window) → In w (agreed_windows ws) → (InWindow minute w → ⊥) × (start_of w ≤ minute)) → ask_windows ws minute ≡ Ok NoneFollows
  none_always h = outside not_in ∙ none_of nearest (at_end (nearest_which minute (agreed_windows ws) 4223371680))
    where
      nearest : ℕ
      nearest = nearest_of minute (agreed_windows ws) 4223371680

      not_in : ask_windows ws minute ≡ Ok Inside → ⊥
      not_in e = let i = inside_only e in (h i.0 i.1.0).0 i.1.1

      at_end : (nearest ≡ 4223371680) ⊎ ((w : Window) × (In w (agreed_windows ws) × ((start_of w ≡ nearest) × (minute < start_of w)))) → 4223371680 ≤ nearest
      at_end (inl e) = omega arith
      at_end (inr (w, (i, (s, a)))) = let l = (h w i).1 in absurd (omega arith)

  -- where a start is after the minute, and it is inside no window, the answer is a next one
  pub next_always : (ask_windows ws minute ≡ Ok Inside → ⊥) → (w : Window) → In w (agreed_windows ws) → minute < start_of w → (next : ℕ) × (ask_windows ws minute ≡ Ok (Next next))
  next_always h w i a =
      let low = nearest_low minute (agreed_windows ws) 4223371680 w i a in
      let bound = start_bound w i in
      (nearest_of minute (agreed_windows ws) 4223371680, outside h ∙ next_of (nearest_of minute (agreed_windows ws) 4223371680) (omega arith))
