-- A shard begun from group settings is made exactly where no cause holds in them, whatever calls come behind; else it stays as it began, and every call gives the
-- number of the first cause.
-- Assumes nothing.
use Rattle.std.specs.Prelude.{Result, Ok, Err, not}
use Rattle.message.specs.Outcomes.{Outcome}
use mathlib.Core.Path.{◌≡◌, refl, sym, ap, subst, ◌∙◌}
use mathlib.Core.Logic.{◌⊎◌, inl, inr}
use mathlib.Core.Bool.{Bool, true, false, cond, ◌&&◌}
use mathlib.Core.List.{List, [], ◌∷◌}
use Prim.Native.Nat.{ℕ}
use native.Mathlib.Omega.{arith}
use lib.Dec.{ltb, leb}
use borrow.Author.Tests.{leb-true, leb-false, lt-ltb, le-ltb}
use Rattle.message.specs.Refusals.{refusal_number}
use Rattle.message.specs.declared.Refusal.{Refusal}
use Rattle.message.specs.declared.Refusal.TheVariants.{SettingsOutsideLimits, NotInCalendar}
use Rattle.fast_state.specs.Adopt.{lowest_best}
use Rattle.settings.specs.Settings.{within_limits}
use Rattle.calls.specs.declared.Call.{Call}
use Rattle.consensus.specs.Call.{new_shard, shard_after_calls}
use Rattle.consensus.specs.FirstCause.{settings_causes, number_of_outcome, MadeBySettings}
use Rattle.consensus.specs.Rows.{Row, gives, NoneHolds, FirstHolds, then}
use Rattle.consensus.specs.declared.Answer.{Answer}
use Rattle.consensus.specs.declared.Shard.{Shard}
use Rattle.consensus.proofs.Refusals.{new_by_settings, marked_once, unmade_refuses}
use Rattle.windows.specs.Windows.{all_fit, agreed_windows, check_windows}
use Rattle.windows.specs.declared.WindowRefusal.{WindowRefusal}
use Rattle.windows.specs.declared.WindowRefusal.TheVariants.{TooManyWindows, NotInCalendar as OutsideCalendar}
use Rattle.group_settings.specs.GroupSettings.{windows_outcome, settings_outcome}
use Rattle.group_settings.specs.declared.GroupSettings.{GroupSettings}
use Rattle.group_shard.specs.Begin.{begin_shard, group_causes, OfGroupSettings}

-- ---- one list of causes behind another

none_behind : (rows rest : List Row) → NoneHolds rows → NoneHolds rest → NoneHolds (then rows rest)
unfolding then
none_behind [] rest n m = m
none_behind (row ∷ rows) rest (e, n) m = (e, none_behind rows rest n m)

first_before : (rows rest : List Row) (n : ℕ) → FirstHolds rows n → FirstHolds (then rows rest) n
unfolding then
first_before [] rest n f = absurd f
first_before (row ∷ rows) rest n (inl h) = inl h
first_before (row ∷ rows) rest n (inr (e, f)) = inr (e, first_before rows rest n f)

first_behind : (rows rest : List Row) (n : ℕ) → NoneHolds rows → FirstHolds rest n → FirstHolds (then rows rest) n
unfolding then
first_behind [] rest n none f = f
first_behind (row ∷ rows) rest n (e, none) f = inr (e, first_behind rows rest n none f)

-- ---- the mark by the causes

abbrev Marked : GroupSettings → Outcome → Type 0
Marked g made = ((made ≡ Ok tt) × NoneHolds (group_causes g)) ⊎ ((why : Refusal) × (made ≡ Err why) × FirstHolds (group_causes g) (refusal_number why))

marked : (g : GroupSettings) → Marked g (settings_outcome g)
unfolding settings_outcome new_shard check_windows
marked g =
    go (within_limits g.settings) (leb slot 9223372036854775806) (ltb 128 g.windows.count) (all_fit (agreed_windows g.windows)) refl refl refl
    (new_by_settings g.settings)
  where
    slot : ℕ
    slot = g.whole_mhz_from

    rows : List Row
    rows = settings_causes g.settings

    of_group : List Row
    of_group = gives 1 (ltb 9223372036854775806 g.whole_mhz_from) ∷ gives 1 (ltb 128 g.windows.count) ∷ gives 17 (not (all_fit (agreed_windows g.windows))) ∷ []

    checked : Bool → Bool → Result (Unit {0}) WindowRefusal
    checked many fit = cond many (Err TooManyWindows) (cond fit (Ok tt) (Err OutsideCalendar))

    early : leb slot 9223372036854775806 ≡ true → ltb 9223372036854775806 slot ≡ false
    early e = le-ltb 9223372036854775806 slot (leb-true slot 9223372036854775806 e)

    late : leb slot 9223372036854775806 ≡ false → ltb 9223372036854775806 slot ≡ true
    late e = lt-ltb 9223372036854775806 slot (leb-false slot 9223372036854775806 e)

    go : (t u many fit : Bool) → leb slot 9223372036854775806 ≡ u → ltb 128 g.windows.count ≡ many → all_fit (agreed_windows g.windows) ≡ fit
        → MadeBySettings g.settings (cond t (Ok tt) (Err SettingsOutsideLimits))
        → Marked g (cond (t && u) (windows_outcome (checked many fit)) (Err SettingsOutsideLimits))
    go true true false true e f h (inl (_, none)) = inl (refl, none_behind rows of_group none (early e, (f, (ap not h, tt))))
    go true true false false e f h (inl (_, none)) =
        inr (NotInCalendar, refl, first_behind rows of_group 17 none (inr (early e, inr (f, inl (ap not h, refl)))))
    go true true true fit e f h (inl (_, none)) = inr (SettingsOutsideLimits, refl, first_behind rows of_group 1 none (inr (early e, inl (f, refl))))
    go true false many fit e f h (inl (_, none)) = inr (SettingsOutsideLimits, refl, first_behind rows of_group 1 none (inl (late e, refl)))
    go true u many fit e f h (inr (made, first)) = absurd (let z : ◌≡◌ {A = ℕ} 0 1 = ap number_of_outcome made in omega arith)
    go false u many fit e f h (inl (made, none)) = absurd (let z : ◌≡◌ {A = ℕ} 1 0 = ap number_of_outcome made in omega arith)
    go false u many fit e f h (inr (_, first)) = inr (SettingsOutsideLimits, refl, first_before rows of_group 1 first)

-- ---- through any list of calls

unmade_stays : (shard : Shard) (why : Refusal) → shard.made ≡ Err why → (cs : List Call) → shard_after_calls shard cs ≡ shard
unfolding shard_after_calls
unmade_stays shard why e [] = refl
unmade_stays shard why e (c ∷ cs) =
    ap (λ (r : Answer). shard_after_calls r.shard cs) (unmade_refuses lowest_best shard c why e) ∙ unmade_stays shard why e cs

pub begun_stays : (g : GroupSettings) (cs : List Call) → OfGroupSettings g (shard_after_calls (begin_shard g) cs)
unfolding begin_shard
begun_stays g cs = go (marked g)
  where
    go : Marked g (settings_outcome g) → OfGroupSettings g (shard_after_calls (begin_shard g) cs)
    go (inl (e, none)) = inl (none, marked_once (begin_shard g) cs ∙ e)
    go (inr (why, e, first)) =
        subst (OfGroupSettings g) (sym (unmade_stays (begin_shard g) why e cs)) (inr (why, first, refl, λ c. unmade_refuses lowest_best (begin_shard g) c why e))
