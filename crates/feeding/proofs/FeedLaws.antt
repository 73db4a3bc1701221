-- Feeding a list is applying its entries one by one (document 02, E10), and what it answers, of any register of commits.
-- Assumes nothing.
use mathlib.Core.Path.{◌≡◌, refl, sym, ap, ◌∙◌}
use mathlib.Core.Bool.{true, false}
use mathlib.Core.List.{List, [], ◌∷◌, ◌++◌}
use mathlib.Core.Logic.{◌↔◌}
use Prim.Native.Nat.{ℕ, ◌≤◌, ◌<◌}
use Rattle.basics.proofs.Tests.{not_both}
use Rattle.std.specs.Prelude.{Option, Some, None, Result, Ok, Err}
use Rattle.register.specs.Refusals.{outcome_number}
use Rattle.register.specs.declared.Entered.{Entered}
use Rattle.register.specs.declared.Entered.TheVariants.{Done, Older}
use Rattle.register.specs.declared.EntryRefusal.TheVariants.{NumberTooLarge, NotAssignable, NoRoomForCell, CellNotLive}
use Rattle.register.specs.declared.CellEntry.{CellEntry}
use Rattle.group_register.specs.Settings.{unmade_by, is_made}
use Rattle.group_register.specs.GroupHistory.{apply_all_in_group}
use Rattle.group_register.specs.GroupRegister.{group_refusal_number}
use Rattle.group_register.specs.declared.GroupApplied.{GroupApplied}
use Rattle.group_register.specs.declared.GroupRefusal.{GroupRefusal}
use Rattle.group_register.specs.declared.GroupRefusal.TheVariants.{Unmade as unmade_register, OddWidth, AsRegister}
use Rattle.group_register.specs.declared.GroupRegister.{GroupRegister}
use Rattle.group_register.specs.declared.UnmadeBy.TheVariants.{OutsideLimits, NotInCalendar}
use Rattle.group_register.proofs.GroupLaws.{older_applied}
use Rattle.positions.specs.Placed.{position_refusal_number}
use Rattle.positions.specs.declared.PositionRefusal.{PositionRefusal}
use Rattle.positions.specs.declared.PositionRefusal.TheVariants.{OutsideGrid, AsGroup}
use Rattle.feeding.specs.declared.FeedRefusal.{FeedRefusal}
use Rattle.feeding.specs.declared.FeedRefusal.TheVariants.{Unmade}
use Rattle.feeding.specs.declared.FirstRefused.{FirstRefused}
use Rattle.feeding.specs.Feeding.{CommitRegister, feed_checked, FedTo, fed_to, is_refusal, or_refused, refused_slot, refused_number, Feeding, feeding_in, fed_unless, entries_in, fed_one, feed_all, feed_checked_for, feeding}
use Rattle.feeding.specs.Registers.{cell_register}
use Rattle.feeding.proofs.FeedTurns.{checked_made}

module _ {R L E W : Type 0} (k : CommitRegister R L E W) where
  -- the register after entries in their order
  unfoldable pub entries_applied : R → List E → R
  entries_applied r [] = r
  entries_applied r (e ∷ es) = entries_applied (k.after r e) es

  -- the register is the one after those entries, one by one
  pub fed_one_by_one : (f : FedTo R W) (es : List E) → (feed_all k f es).register ≡ entries_applied f.register es
  unfolding feed_all entries_applied
  fed_one_by_one f [] = refl
  fed_one_by_one f (e ∷ es) = fed_one_by_one (fed_one k f e) es

  -- ---- "from the slot after the last one seen"

  older_no_number : (first : Option (FirstRefused W)) (slot : ℕ) → or_refused first slot (Ok Older) ≡ first
  unfolding or_refused
  older_no_number None slot = refl
  older_no_number (Some f) slot = refl

  -- an entry before it, which changes nothing, gives no number
  pub older_left : (f : FedTo R W) (e : E) (es : List E) → k.outcome f.register e ≡ Ok Older → k.after f.register e ≡ f.register
      → feed_all k f (e ∷ es) ≡ feed_all k f es
  unfolding feed_all
  older_left f e es older same =
      ap (λ (o : Result Entered W). feed_all k (fed_to (or_refused f.first (k.slot e) o) (k.after f.register e)) es) older
      ∙ ap (λ (x : Option (FirstRefused W)). feed_all k (fed_to x (k.after f.register e)) es) (older_no_number f.first (k.slot e))
      ∙ ap (λ (r : R). feed_all k (fed_to f.first r) es) same

  -- ---- "it hands back the first refused slot, if any, with its number", of refusals that have numbers of document 02

  stays_first : (r : R) (first : FirstRefused W) (es : List E) → (feed_all k (fed_to (Some first) r) es).first ≡ Some first
  unfolding feed_all or_refused
  stays_first r first [] = refl
  stays_first r first (e ∷ es) = stays_first (k.after r e) first es

  module _ (refuses : (why : W) → is_refusal (k.number why) ≡ true) where
    -- document 02's number of an entry
    abbrev told : R → E → ℕ
    told r e = outcome_number k.number (k.outcome r e)

    -- none of the entries is refused in its turn
    abbrev pub AllTaken : R → List E → Type 0
    AllTaken r [] = Unit {0}
    AllTaken r (e ∷ es) = (is_refusal (told r e) ≡ false) × AllTaken (k.after r e) es

    -- what is no refusal leaves the first as it is
    taken_none : (slot : ℕ) (outcome : Result Entered W) → is_refusal (outcome_number k.number outcome) ≡ false → or_refused None slot outcome ≡ None
    unfolding or_refused
    taken_none slot (Ok entered) t = refl
    taken_none slot (Err why) t = absurd (not_both (refuses why) t)

    pub none_refused : (r : R) (es : List E) → AllTaken r es → (feed_all k (fed_to None r) es).first ≡ None
    unfolding feed_all
    none_refused r [] t = refl
    none_refused r (e ∷ es) t =
        ap (λ (x : Option (FirstRefused W)). (feed_all k (fed_to x (k.after r e)) es).first) (taken_none (k.slot e) (k.outcome r e) t.0)
        ∙ none_refused (k.after r e) es t.1

    -- an outcome whose number is one of document 02's is a refusal, and the number is that of its cause
    pub refusal_told : (outcome : Result Entered W) → is_refusal (outcome_number k.number outcome) ≡ true → (why : W) × (outcome ≡ Err why)
    refusal_told (Ok Done) t = cc
    refusal_told (Ok Older) t = cc
    refusal_told (Err why) t = (why, refl)

    -- the first refused slot, and why
    pub first_refused : (r : R) (before : List E) (e : E) (after : List E) → AllTaken r before
        → (why : W) → k.outcome (entries_applied r before) e ≡ Err why
        → (feed_all k (fed_to None r) (before ++ (e ∷ after))).first ≡ Some (record { slot = k.slot e; why = why })
    unfolding feed_all or_refused entries_applied
    first_refused r [] e after t why is =
        ap (λ (o : Result Entered W). (feed_all k (fed_to (or_refused None (k.slot e) o) (k.after r e)) after).first) is
        ∙ stays_first (k.after r e) (record { slot = k.slot e; why = why }) after
    first_refused r (b ∷ before) e after t why is =
        ap (λ (x : Option (FirstRefused W)). (feed_all k (fed_to x (k.after r b)) (before ++ (e ∷ after))).first) (taken_none (k.slot b) (k.outcome r b) t.0)
        ∙ first_refused (k.after r b) before e after t.1 why is

    -- and so with its number
    pub first_refused_number : (r : R) (before : List E) (e : E) (after : List E) → AllTaken r before → is_refusal (told (entries_applied r before) e) ≡ true
        → (refused_slot (feed_all k (fed_to None r) (before ++ (e ∷ after))).first ≡ k.slot e)
        × (refused_number k.number (feed_all k (fed_to None r) (before ++ (e ∷ after))).first ≡ told (entries_applied r before) e)
    first_refused_number r before e after t is =
        let why = refusal_told (k.outcome (entries_applied r before) e) is in
        let first = first_refused r before e after t why.0 why.1 in
        (ap refused_slot first, ap (refused_number k.number) first ∙ sym (ap (outcome_number k.number) why.1))

  -- ---- the call

  -- a register that is not made gives its number, and stays
  pub not_fed_unmade : (r : R) (l : L) → is_made (k.group r).settings ≡ false → feeding k r l ≡ feeding_in (Err (Unmade (unmade_by (k.group r).settings))) r
  unfolding feeding feed_checked
  not_fed_unmade r l unmade = simp unmade

  -- a call that says so has fed the whole list, to a register that is made
  pub fed_as_said : (r : R) (l : L) (first : Option (FirstRefused W)) → (feeding k r l).answer ≡ Ok first
      → (is_made (k.group r).settings ≡ true) × (feeding k r l ≡ fed_unless (Ok tt) r (feed_all k (fed_to None r) (entries_in k l)))
  unfolding feeding
  fed_as_said r l first said = go (feed_checked_for k r l) refl said
    where
      fed : FedTo R W
      fed = feed_all k (fed_to None r) (entries_in k l)

      go : (c : Result (Unit {0}) FeedRefusal) → feed_checked_for k r l ≡ c → (fed_unless c r fed).answer ≡ Ok first
          → (is_made (k.group r).settings ≡ true) × (fed_unless c r fed ≡ fed_unless (Ok tt) r fed)
      go (Err why) e said = cc
      go (Ok u) e said = (checked_made _ _ _ _ u e, refl)

  -- and one that gives a number has left the register as it was
  pub not_fed_unchanged : (r : R) (l : L) (why : FeedRefusal) → (feeding k r l).answer ≡ Err why → (feeding k r l).register ≡ r
  unfolding feeding
  not_fed_unchanged r l why said = go (feed_checked_for k r l) (feed_all k (fed_to None r) (entries_in k l)) said
    where
      go : (c : Result (Unit {0}) FeedRefusal) (fed : FedTo R W) → (fed_unless c r fed).answer ≡ Err why → (fed_unless c r fed).register ≡ r
      go (Err x) fed said = refl
      go (Ok u) fed said = cc

  -- it gives the number for which the list is looked through
  pub refused_as_checked : (r : R) (l : L) (why : FeedRefusal) → ((feeding k r l).answer ≡ Err why) ↔ (feed_checked_for k r l ≡ Err why)
  unfolding feeding
  refused_as_checked r l why = (
    λ e. go (feed_checked_for k r l) e,
    λ e. ap (λ (c : Result (Unit {0}) FeedRefusal). (fed_unless c r fed).answer) e,
  )
    where
      fed : FedTo R W
      fed = feed_all k (fed_to None r) (entries_in k l)

      go : (c : Result (Unit {0}) FeedRefusal) → (fed_unless c r fed).answer ≡ Err why → c ≡ Err why
      go (Err x) e = cc
      go (Ok u) e = cc

-- ---- the register of group settings

pub cells_one_by_one : (g : GroupRegister) (es : List CellEntry) → entries_applied cell_register g es ≡ apply_all_in_group g es
unfolding entries_applied apply_all_in_group
cells_one_by_one g [] = refl
cells_one_by_one g (e ∷ es) = cells_one_by_one (cell_register.after g e) es

-- an entry before the next slot is not fed
pub older_not_fed : (f : FedTo GroupRegister GroupRefusal) (e : CellEntry) (es : List CellEntry) → is_made f.register.settings ≡ true
    → e.slot ≤ 9223372036854775806 → e.slot < f.register.register.next_slot → feed_all cell_register f (e ∷ es) ≡ feed_all cell_register f es
older_not_fed f e es made h q =
    let older = older_applied f.register.settings made f.register.register e h q in
    older_left cell_register f e es (ap (λ (a : GroupApplied). a.outcome) older) (ap (λ (a : GroupApplied). a.group) older)

-- ---- every refusal has a number of document 02

pub cells_refuse : (why : GroupRefusal) → is_refusal (group_refusal_number why) ≡ true
cells_refuse (unmade_register OutsideLimits) = refl
cells_refuse (unmade_register NotInCalendar) = refl
cells_refuse OddWidth = refl
cells_refuse (AsRegister NumberTooLarge) = refl
cells_refuse (AsRegister NotAssignable) = refl
cells_refuse (AsRegister NoRoomForCell) = refl
cells_refuse (AsRegister CellNotLive) = refl

pub positions_refuse : (why : PositionRefusal) → is_refusal (position_refusal_number why) ≡ true
positions_refuse OutsideGrid = refl
positions_refuse (AsGroup why) = cells_refuse why
