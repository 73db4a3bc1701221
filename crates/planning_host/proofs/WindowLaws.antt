-- A question about the windows of group settings gives the number of the settings, and of settings that are made it is answered as document 02 says of their windows
-- (E8; the answers in words: crates/windows/proofs/Laws.antt).
-- Assumes nothing.
use mathlib.Core.Path.{◌≡◌, refl, ap, ◌∙◌}
use mathlib.Core.Bool.{Bool, cond}
use mathlib.Core.Logic.{inl, inr}
use Prim.Native.Nat.{ℕ}
use native.Mathlib.Omega.{arith}
use borrow.Author.Tests.{ne_eqb}
use Rattle.std.specs.Prelude.{Ok}
use Rattle.group_settings.specs.GroupSettings.{decoded_group_settings, flat_settings_number, NumberBySettings, FlatNumberBySettings}
use Rattle.group_settings.specs.declared.FlatGroupSettings.{FlatGroupSettings}
use Rattle.group_settings.proofs.Numbers.{flat_number_by_settings}
use Rattle.windows.specs.Windows.{window_check_number, check_windows, no_windows, kept_of, check_kept, ask_checked, ask_kept, ask_windows}
use Rattle.windows.proofs.Kept.{kept_answers}
use Rattle.windows.proofs.Laws.{made_always}
use Rattle.planning_host.specs.Asked.{kept_settings}
use Rattle.planning_host.proofs.BegunLaws.{NumberIs, number_is}

module _ (f : FlatGroupSettings) where
  -- of settings that are made the windows are
  pub windows_made : flat_settings_number f ≡ 0 → check_windows f.windows ≡ Ok tt
  windows_made none = of_all (flat_settings_number f) none (flat_number_by_settings f)
    where
      of_one : (n : ℕ) → n ≡ 0 → NumberBySettings (decoded_group_settings f) n → check_windows f.windows ≡ Ok tt
      of_one n e (inl made) = made_always f.windows made.1.0.1.1 made.1.1
      of_one n e (inr (inl outside)) = absurd (let one = outside.0 in omega arith)
      of_one n e (inr (inr unfit)) = absurd (let seventeen = unfit.0 in omega arith)

      of_all : (n : ℕ) → n ≡ 0 → FlatNumberBySettings f n → check_windows f.windows ≡ Ok tt
      of_all n e (inl known) = of_one n e known.1
      of_all n e (inr unknown) = absurd (let one = unknown.1 in omega arith)

  -- and a question is asked of them
  pub asked_of_windows : flat_settings_number f ≡ 0 → (minute : ℕ) → ask_kept (kept_settings f) minute ≡ ask_windows f.windows minute
  asked_of_windows none minute = simp none (kept_answers f.windows minute)

  -- settings that are not made give their number, 1 or 17, whatever is asked
  pub asked_unmade : (flat_settings_number f ≡ 0 → ⊥) → (minute : ℕ) → window_check_number (ask_kept (kept_settings f) minute) ≡ flat_settings_number f
  unfolding ask_kept check_kept ask_checked
  asked_unmade not-0 minute =
      ap (λ (t : Bool). window_check_number (ask_kept (cond t (kept_of f.windows) (no_windows (flat_settings_number f))) minute)) (ne_eqb (flat_settings_number f) 0 not-0)
      ∙ go (flat_settings_number f) not-0 (number_is f)
    where
      go : (n : ℕ) → (n ≡ 0 → ⊥) → NumberIs n → window_check_number (ask_kept (no_windows n) minute) ≡ n
      go n off (inl e) = absurd (off e)
      go n off (inr (inl e)) = rw e refl
      go n off (inr (inr e)) = rw e refl
