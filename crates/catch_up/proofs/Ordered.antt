-- Two lists within the limits, of which one begins no later than the other: when they have a gap, when they disagree, and what their join is.
-- Assumes nothing.
use mathlib.Core.Path.{◌≡◌, refl, sym, ap, ◌∙◌}
use mathlib.Core.Logic.{◌⊎◌, inl, inr, ⊎_elim, ◌↔◌}
use mathlib.Core.Bool.{true, false}
use mathlib.Core.List.{List}
use Prim.Native.Nat.{ℕ, ◌+◌, ◌-◌, ◌≤◌, ◌<◌}
use native.Mathlib.Omega.{arith}
use lib.Dec.{ltb}
use lib.ListN.{length, get_or, drop, length-append, length-drop, get_or-append, get_or-eq_default}
use lib.Seq.{get_or-drop, get_or-append-add}
use borrow.Author.Tests.{ltb-true, lt-ltb}
use Rattle.basics.specs.Lists.{In}
use Rattle.basics.proofs.Tests.{either, not_both, and_left, and_right, and_both}
use Rattle.catch_up.specs.Causes.{CommitList, ListedCommit, Consecutive, listed_commits, EndsBefore, Disagree}
use Rattle.catch_up.specs.Joining.{first_slot, ahead, apart, disagree, together, joined_list}
use Rattle.catch_up.proofs.Deciding.{below, Decides, IsListed}
use Rattle.catch_up.proofs.Indices.{StandsInList, in_stands, stands_in, differ_at, same_at}

-- where no slot is, the first one is 0
none_first : (l : List ℕ) → length l ≤ 0 → first_slot l ≡ 0
none_first l h = get_or-eq_default l 0 {n = 0} h

module _ (e l : CommitList) (E : IsListed e) (L : IsListed l) (order : first_slot e.slots ≤ first_slot l.slots) where
  -- ---- 19

  gap_found : apart e l ≡ true → EndsBefore e.slots l.slots ⊎ EndsBefore l.slots e.slots
  gap_found t =
      let some : 0 < length e.slots = ltb-true _ _ (and_left (ltb 0 (length e.slots)) (ltb (length e.slots) (ahead e l)) t) in
      let far : length e.slots < ahead e l = ltb-true _ _ (and_right (ltb 0 (length e.slots)) (ltb (length e.slots) (ahead e l)) t) in
      let last : get_or e.slots (length e.slots - 1) 0 ≡ first_slot e.slots + (length e.slots - 1) = E.at (length e.slots - 1) (omega arith) in
      ⊎_elim (λ (h : 0 < length l.slots). inl (some, h, omega arith)) (λ (h : length l.slots ≤ 0). absurd (omega (arith, none_first l.slots h))) (below 0 (length l.slots))

  gap_shows : EndsBefore e.slots l.slots ⊎ EndsBefore l.slots e.slots → apart e l ≡ true
  gap_shows (inl g) =
      let last : get_or e.slots (length e.slots - 1) 0 ≡ first_slot e.slots + (length e.slots - 1) = E.at (length e.slots - 1) (omega (arith, g.0)) in
      and_both (lt-ltb _ _ g.0) (lt-ltb (length e.slots) (ahead e l) (omega (arith, g.0, g.2)))
  gap_shows (inr g) =
      let last : get_or l.slots (length l.slots - 1) 0 ≡ first_slot l.slots + (length l.slots - 1) = L.at (length l.slots - 1) (omega (arith, g.0)) in
      absurd (omega (arith, g.2))

  pub gap_decides : Decides (apart e l) (EndsBefore e.slots l.slots ⊎ EndsBefore l.slots e.slots)
  gap_decides = (gap_found, gap_shows)

  -- ---- 20

  -- the entries of the earlier list beside those of the later one
  beside_slots : (i : ℕ) → ahead e l + i < length e.slots → i < length l.slots → get_or l.slots i 0 ≡ get_or e.slots (ahead e l + i) 0
  beside_slots i h k = omega (arith, E.at (ahead e l + i) h, L.at i k)

  two_found : disagree e l ≡ true → Disagree (listed_commits e) (listed_commits l)
  two_found t =
      let r = differ_at (drop (ahead e l) e.values) l.values t in
      let i = r.0 in
      let long : length (drop (ahead e l) e.values) ≡ length e.values - ahead e l = length-drop (ahead e l) e.values in
      let same-e = E.same in
      let same-l = L.same in
      let in_e : ahead e l + i < length e.slots = omega (arith, r.1) in
      let in-l : i < length l.slots = omega (arith, r.2) in
      let there : get_or (drop (ahead e l) e.values) i 0 ≡ get_or e.values (ahead e l + i) 0 = get_or-drop (ahead e l) e.values i 0 in (
        get_or e.slots (ahead e l + i) 0,
        get_or e.values (ahead e l + i) 0,
        get_or l.values i 0,
        stands_in e.slots e.values _ (ahead e l + i, in_e, omega arith, refl, refl),
        stands_in l.slots l.values _ (i, in-l, omega arith, beside_slots i in_e in-l, refl),
        λ q. r.3 (there ∙ q),
      )

  two_shows : Disagree (listed_commits e) (listed_commits l) → disagree e l ≡ true
  two_shows d =
      let p = in_stands e.slots e.values _ d.3 in
      let q = in_stands l.slots l.values _ d.4 in
      let i = p.0 in
      let j = q.0 in
      let place : i ≡ ahead e l + j = omega (arith, E.at i p.1, L.at j q.1, p.3, q.3) in
      let long : length (drop (ahead e l) e.values) ≡ length e.values - ahead e l = length-drop (ahead e l) e.values in
      let there : get_or (drop (ahead e l) e.values) j 0 ≡ get_or e.values (ahead e l + j) 0 = get_or-drop (ahead e l) e.values j 0 in
      ⊎_elim (λ t. t)
      (λ t. absurd (d.5 (sym p.4 ∙ ap (λ (n : ℕ). get_or e.values n 0) place ∙ sym there ∙ same_at _ _ t j (omega (arith, p.2)) q.2 ∙ q.4)))
      (either (disagree e l))

  pub two_decides : Decides (disagree e l) (Disagree (listed_commits e) (listed_commits l))
  two_decides = (two_found, two_shows)

  -- ---- the join

  module _ (no_gap : apart e l ≡ false) (agree : disagree e l ≡ false) where
    -- the later list begins within the earlier one, or at its end
    meets : 0 < length e.slots → ahead e l ≤ length e.slots
    meets h = ⊎_elim (λ (k : length e.slots < ahead e l). absurd (not_both (and_both (lt-ltb _ _ h) (lt-ltb _ _ k)) no_gap)) (λ k. k) (below (length e.slots) (ahead e l))

    slots_long : length (joined_list e l).slots ≡ length e.slots + (length l.slots - (length e.slots - ahead e l))
    slots_long = length-append e.slots _ ∙ ap (λ (n : ℕ). length e.slots + n) (length-drop _ l.slots)

    values_long : length (joined_list e l).values ≡ length e.values + (length l.values - (length e.slots - ahead e l))
    values_long = length-append e.values _ ∙ ap (λ (n : ℕ). length e.values + n) (length-drop _ l.values)

    pub join_same : length (joined_list e l).slots ≡ length (joined_list e l).values
    join_same = omega (arith, slots_long, values_long, E.same, L.same)

    pub join_few : length (joined_list e l).slots ≤ 8192
    join_few = omega (arith, slots_long, E.few, L.few)

    -- what stands at a place
    front : (es ls : List ℕ) (i : ℕ) → i < length es → get_or (together e l es ls) i 0 ≡ get_or es i 0
    front es ls i h = get_or-append es _ 0 i h

    behind : (es ls : List ℕ) (k : ℕ) → get_or (together e l es ls) (length es + k) 0 ≡ get_or ls (length e.slots - ahead e l + k) 0
    behind es ls k = get_or-append-add es _ k 0 ∙ get_or-drop _ ls k 0

    to_one : (c : ListedCommit) → StandsInList (joined_list e l).slots (joined_list e l).values c → StandsInList e.slots e.values c ⊎ StandsInList l.slots l.values c
    to_one c r =
        let i = r.0 in
        let same-e = E.same in
        let same-l = L.same in
        ⊎_elim
        (λ (h : i < length e.slots). inl (i, h, omega arith, sym (front e.slots l.slots i h) ∙ r.3, sym (front e.values l.values i (omega arith)) ∙ r.4))
        (λ (h : length e.slots ≤ i).
        let k : ℕ = i - length e.slots in
        let at_slots : i ≡ length e.slots + k = omega arith in
        let at-values : i ≡ length e.values + k = omega arith in
        let n : ℕ = length e.slots - ahead e l + k in
        inr (
          n,
          omega (arith, slots_long, r.1),
          omega (arith, values_long, r.2),
          sym (behind e.slots l.slots k) ∙ ap (λ (m : ℕ). get_or (joined_list e l).slots m 0) (sym at_slots) ∙ r.3,
          sym (behind e.values l.values k) ∙ ap (λ (m : ℕ). get_or (joined_list e l).values m 0) (sym at-values) ∙ r.4,
        ))
        (below i (length e.slots))

    from_earlier : (c : ListedCommit) → StandsInList e.slots e.values c → StandsInList (joined_list e l).slots (joined_list e l).values c
    from_earlier c r = (
      r.0,
      omega (arith, slots_long, r.1),
      omega (arith, values_long, r.2),
      front e.slots l.slots r.0 r.1 ∙ r.3,
      front e.values l.values r.0 r.2 ∙ r.4,
    )

    from_later : (c : ListedCommit) → StandsInList l.slots l.values c → StandsInList (joined_list e l).slots (joined_list e l).values c
    from_later c r =
        let k = r.0 in
        let same-e = E.same in
        let same-l = L.same in
        let long : length (drop (ahead e l) e.values) ≡ length e.values - ahead e l = length-drop (ahead e l) e.values in
        let there : get_or (drop (ahead e l) e.values) k 0 ≡ get_or e.values (ahead e l + k) 0 = get_or-drop (ahead e l) e.values k 0 in
        ⊎_elim
        (λ (h : k < length e.slots - ahead e l).
        from_earlier c (
          ahead e l + k,
          omega arith,
          omega arith,
          sym (beside_slots k (omega arith) r.1) ∙ r.3,
          sym there ∙ same_at _ _ agree k (omega arith) r.2 ∙ r.4,
        ))
        (λ (h : length e.slots - ahead e l ≤ k).
        let m : ℕ = k - (length e.slots - ahead e l) in
        let at-k : length e.slots - ahead e l + m ≡ k = omega arith in
        let at-values : length e.values + m ≡ length e.slots + m = omega arith in (
          length e.slots + m,
          omega (arith, slots_long, r.1),
          omega (arith, values_long, r.2),
          behind e.slots l.slots m ∙ ap (λ (n : ℕ). get_or l.slots n 0) at-k ∙ r.3,
          ap (λ (n : ℕ). get_or (joined_list e l).values n 0) (sym at-values) ∙ behind e.values l.values m ∙ ap (λ (n : ℕ). get_or l.values n 0) at-k ∙ r.4,
        ))
        (below k (length e.slots - ahead e l))

    pub join_holds : (c : ListedCommit) → In c (listed_commits (joined_list e l)) ↔ (In c (listed_commits e) ⊎ In c (listed_commits l))
    join_holds c = (
      λ m. ⊎_elim (λ s. inl (stands_in e.slots e.values c s)) (λ s. inr (stands_in l.slots l.values c s)) (to_one c (in_stands (joined_list e l).slots (joined_list e l).values c m)),
      ⊎_elim (λ m. stands_in (joined_list e l).slots (joined_list e l).values c (from_earlier c (in_stands e.slots e.values c m)))
          (λ m. stands_in (joined_list e l).slots (joined_list e l).values c (from_later c (in_stands l.slots l.values c m))),
    )

    -- ---- its slots

    slot_at : 0 < length e.slots → (i : ℕ) → i < length (joined_list e l).slots → get_or (joined_list e l).slots i 0 ≡ first_slot e.slots + i
    slot_at some i h =
        let near = meets some in
        ⊎_elim (λ (k : i < length e.slots). front e.slots l.slots i k ∙ E.at i k)
        (λ (k : length e.slots ≤ i).
        let m : ℕ = i - length e.slots in
        let at-m : i ≡ length e.slots + m = omega arith in
        let read : get_or (joined_list e l).slots i 0 ≡ get_or l.slots (length e.slots - ahead e l + m) 0 =
        ap (λ (n : ℕ). get_or (joined_list e l).slots n 0) at-m ∙ behind e.slots l.slots m in
        omega (arith, read, L.at (length e.slots - ahead e l + m) (omega (arith, slots_long))))
        (below i (length e.slots))

    slot_at_later : length e.slots ≤ 0 → (i : ℕ) → i < length (joined_list e l).slots → get_or (joined_list e l).slots i 0 ≡ first_slot l.slots + i
    slot_at_later none i h =
        let here : i ≡ length e.slots + i = omega arith in
        let there : length e.slots - ahead e l + i ≡ i = omega arith in
        let read : get_or (joined_list e l).slots i 0 ≡ get_or l.slots i 0 =
        ap (λ (n : ℕ). get_or (joined_list e l).slots n 0) here ∙ behind e.slots l.slots i ∙ ap (λ (n : ℕ). get_or l.slots n 0) there in
        omega (arith, read, L.at i (omega (arith, slots_long)))

    pub join_consecutive : Consecutive (joined_list e l).slots
    join_consecutive i h =
        ⊎_elim (λ (some : 0 < length e.slots). omega (arith, slot_at some i (omega arith), slot_at some (i + 1) h))
        (λ (none : length e.slots ≤ 0). omega (arith, slot_at_later none i (omega arith), slot_at_later none (i + 1) h))
        (below 0 (length e.slots))
