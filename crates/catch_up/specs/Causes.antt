-- Lists of commits, and when two of them are not joined (document 02, E10: "in that order, after 2"). This page is the statement;
-- proofs/Exact.antt says that the call gives each number exactly here.
-- Assumes nothing.
use Rattle.std.specs.Prelude.{◌≡◌, ◌⊎◌, List, [], ◌∷◌, ℕ, ◌+◌, ◌-◌, ◌<◌, length, get_or}
use Rattle.basics.specs.Lists.{In}
use Rattle.catch_up.specs.declared.JoinRefusal.{JoinRefusal}
use Rattle.catch_up.specs.declared.JoinRefusal.TheVariants.{NumberTooLarge, OutsideLimits, Gap, TwoValues}

-- ---- lists

-- "consecutive slots with values": a list as a host lends it, a slice of slots and a slice of values
pub record CommitList : Type 0 where
  pub slots : List ℕ
  pub values : List ℕ

-- an entry of a list
pub record ListedCommit : Type 0 where
  pub slot : ℕ
  pub value : ℕ

-- each slot with the value beside it
unfoldable pub beside : List ℕ → List ℕ → List ListedCommit
beside [] values = []
beside (s ∷ slots) [] = []
beside (s ∷ slots) (v ∷ values) = record { slot = s; value = v } ∷ beside slots values

-- a list as its entries
abbrev pub listed_commits : CommitList → List ListedCommit
listed_commits l = beside l.slots l.values

-- each slot is the one after the slot before it
abbrev pub Consecutive : List ℕ → Type 0
Consecutive slots = (i : ℕ) → i + 1 < length slots → get_or slots (i + 1) 0 ≡ get_or slots i 0 + 1

-- ---- the causes

-- 2: "slot above 2^63−2, or other number above 2^63−1", at any place of the list
abbrev pub ListTooLarge : CommitList → Type 0
ListTooLarge l = ((n : ℕ) × In n l.slots × (9223372036854775806 < n)) ⊎ ((n : ℕ) × In n l.values × (9223372036854775807 < n))

-- 18: "more than 4,096 entries in a list .. or slots not consecutive within it"; a slot without a value, or a value without a slot
abbrev pub Outside : CommitList → Type 0
Outside l = (4096 < length l.slots) ⊎ ((length l.slots ≡ length l.values → ⊥) ⊎ (Consecutive l.slots → ⊥))

-- 19, "a gap between the lists": both have entries, and b begins past the slot after the last one of a, so that they neither overlap nor touch
abbrev pub EndsBefore : List ℕ → List ℕ → Type 0
EndsBefore a b = (0 < length a) × (0 < length b) × (get_or a (length a - 1) 0 + 1 < get_or b 0 0)

-- 20: "one slot with two values"
abbrev pub Disagree : List ListedCommit → List ListedCommit → Type 0
Disagree a b = (slot v w : ℕ) × In (record { slot = slot; value = v }) a × In (record { slot = slot; value = w }) b × (v ≡ w → ⊥)

-- two lists, and how many places are lent for the result: "Fewer than 8,192 lent places give 18"
abbrev pub JoinCause : JoinRefusal → CommitList → CommitList → ℕ → Type 0
JoinCause NumberTooLarge a b places = ListTooLarge a ⊎ ListTooLarge b
JoinCause OutsideLimits a b places = Outside a ⊎ (Outside b ⊎ (places < 8192))
JoinCause Gap a b places = EndsBefore a.slots b.slots ⊎ EndsBefore b.slots a.slots
JoinCause TwoValues a b places = Disagree (listed_commits a) (listed_commits b)

-- "in that order, after 2": no cause of an earlier number
abbrev pub NoneBefore : JoinRefusal → CommitList → CommitList → ℕ → Type 0
NoneBefore NumberTooLarge a b places = Unit {0}
NoneBefore OutsideLimits a b places = JoinCause NumberTooLarge a b places → ⊥
NoneBefore Gap a b places = (JoinCause NumberTooLarge a b places → ⊥) × (JoinCause OutsideLimits a b places → ⊥)
NoneBefore TwoValues a b places = (JoinCause NumberTooLarge a b places → ⊥) × (JoinCause OutsideLimits a b places → ⊥) × (JoinCause Gap a b places → ⊥)

-- no cause of any number
abbrev pub NoCause : CommitList → CommitList → ℕ → Type 0
NoCause a b places = (why : JoinRefusal) → JoinCause why a b places → ⊥

-- the numbers of document 02
abbrev pub join_number : JoinRefusal → ℕ
join_number NumberTooLarge = 2
join_number OutsideLimits = 18
join_number Gap = 19
join_number TwoValues = 20
