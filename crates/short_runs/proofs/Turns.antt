-- The turns of the lister: what is put after each.
-- Assumes nothing.
use mathlib.Core.Path.{◌≡◌, refl, sym, ap, ◌∙◌}
use mathlib.Core.List.{List, [], ◌++◌, append_assoc}
use Prim.Native.Nat.{ℕ, zero, suc, ◌+◌, ◌-◌, ◌≤◌}
use native.Mathlib.Numerals.{add-one}
use native.Mathlib.Omega.{arith}
use Rattle.std.specs.Prelude.{Option, None, Some}
use Rattle.texts.specs.declared.Output.{Output}
use Rattle.texts.specs.Text.{put}
use Rattle.texts.proofs.Putting.{put_nothing, put_then}
use Rattle.enabled_runs.specs.declared.RunEvent.TheVariants.{Proposes, Delivers}
use Rattle.enabled_runs.specs.Listing.{each_below}
use Rattle.office_runs.specs.Runs.{trial_of}
use Rattle.office_runs.specs.declared.OfficeRun.{OfficeRun}
use Rattle.short_runs.specs.Lister.{kept_line, event_lines, lines_after}

-- the lines that begin with a proposal, and those that begin with a delivery to a member
abbrev pub proposal_lines : ℕ → OfficeRun → ℕ → List ℕ
proposal_lines left run member = event_lines (lines_after left) (trial_of run (Proposes member))

abbrev pub delivery_lines : ℕ → OfficeRun → ℕ → ℕ → List ℕ
delivery_lines left run member place = event_lines (lines_after left) (trial_of run (Delivers member place))

pub no_events_left : (left : ℕ) (run : OfficeRun) (p : Output) → left ≡ 0 → p ≡ put (lines_after left run) p
unfolding lines_after
no_events_left left run p e = sym (put_nothing p) ∙ ap (λ (n : ℕ). put (lines_after n run) p) (sym e)

-- what f gives is put behind a text, for one number after another
pub begins_with_none : (f : ℕ → List ℕ) (p : Output) → p ≡ put (each_below 0 f) p
unfolding each_below
begins_with_none f p = sym (put_nothing p)

next_up_to : (i : ℕ) (f : ℕ → List ℕ) → each_below i f ++ f i ≡ each_below (i + 1) f
unfolding each_below
next_up_to i f = ap (λ (n : ℕ). each_below n f) (sym (add-one i))

pub one_more_behind : (t : List ℕ) (i : ℕ) (f : ℕ → List ℕ) (p : Output) {q r : Output} → q ≡ put (t ++ each_below i f) p → r ≡ put (f i) q
    → r ≡ put (t ++ each_below (i + 1) f) p
one_more_behind t i f p a b =
    put_then (t ++ each_below i f) (f i) p a b ∙ ap (λ (l : List ℕ). put l p) (append_assoc t (each_below i f) (f i) ∙ ap (λ (l : List ℕ). t ++ l) (next_up_to i f))

pub one_more : (i : ℕ) (f : ℕ → List ℕ) (p : Output) {q r : Output} → q ≡ put (each_below i f) p → r ≡ put (f i) q → r ≡ put (each_below (i + 1) f) p
one_more i f p a b = one_more_behind [] i f p a b

pub all_of : (f : ℕ → List ℕ) (t : List ℕ) (i n : ℕ) (p : Output) {q : Output} → i ≤ n → n ≤ i → q ≡ put (t ++ each_below i f) p → q ≡ put (t ++ each_below n f) p
all_of f t i n p most least e = let same : i ≡ n = omega arith in e ∙ ap (λ (m : ℕ). put (t ++ each_below m f) p) same

pub whole : (left : ℕ) (run : OfficeRun) (p : Output) {q : Output} → (left ≡ 0 → ⊥)
    → q ≡ put (each_below 3 (proposal_lines (left - 1) run) ++ each_below 3 (λ member. each_below run.sent.count (delivery_lines (left - 1) run member))) p
    → q ≡ put (lines_after left run) p
unfolding lines_after
whole zero run p some e = absurd (some refl)
whole (suc n) run p some e =
    let same : suc n - 1 ≡ n = omega arith in
    e ∙ ap (λ (m : ℕ). put (each_below 3 (proposal_lines m run) ++ each_below 3 (λ member. each_below run.sent.count (delivery_lines m run member))) p) same

-- ---- an event

pub skipped : (rest : OfficeRun → List ℕ) (n t : Option OfficeRun) (p : Output) → t ≡ n → t ≡ None → p ≡ put (event_lines rest n) p
unfolding event_lines
skipped rest n t p e k = sym (put_nothing p) ∙ ap (λ (x : Option OfficeRun). put (event_lines rest x) p) (sym k ∙ e)

pub turn_entered : (rest : OfficeRun → List ℕ) (n t : Option OfficeRun) (run : OfficeRun) (p : Output) {q r : Output} → t ≡ n → t ≡ Some run → q ≡ put (kept_line run) p
    → r ≡ put (rest run) q → r ≡ put (event_lines rest n) p
unfolding event_lines
turn_entered rest n t run p e k a b = put_then (kept_line run) (rest run) p a b ∙ ap (λ (x : Option OfficeRun). put (event_lines rest x) p) (sym k ∙ e)
