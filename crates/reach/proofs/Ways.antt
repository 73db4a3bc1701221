-- The search goes on behind the cell in the way and passes no free number, and the edges of the near cells say what is in conflict.
-- Assumes nothing.
use mathlib.Core.Path.{◌≡◌, refl, sym, ap, ap₂, ◌∙◌}
use mathlib.Core.Logic.{◌⊎◌, inl, inr}
use mathlib.Core.Bool.{Bool, true, false, cond, ◌&&◌, ◌||◌}
use mathlib.Core.List.{List, [], ◌∷◌, map}
use Prim.Native.Nat.{ℕ, suc, ◌+◌, ◌*◌, ◌-◌, ◌≤◌, ◌<◌, min}
use native.Mathlib.Omega.{arith}
use native.Mathlib.Numerals.{add-one}
use lib.ListN.{length, get_or, drop, drop_of_length-le}
use lib.Seq.{drop-cons}
use lib.Dec.{ltb, leb}
use borrow.Author.Tests.{ltb-true, ltb-false, leb-true, lt-ltb, le-leb}
use Rattle.std.specs.Prelude.{Option, Some, None, Ok, Err, is_some}
use Rattle.std.specs.List.{filter}
use Rattle.basics.proofs.Tests.{either, same_test, and_left, and_right, and_both}
use Rattle.reach.specs.Reach.{khz_at, overlaps, is_near, clashes, blocked, lowest_free}
use Rattle.reach.specs.Search.{edges_of, edges_contain, near_edges, in_the_way, is_in_the_way, FirstFrom}
use Rattle.reach.specs.declared.Edges.{Edges}
use Rattle.reach.specs.declared.PlacedCell.{PlacedCell}
use Rattle.reach.specs.declared.Question.{Question}
use Rattle.reach.specs.declared.ReachRefusal.TheVariants.{NoneFree}
use Rattle.reach.proofs.Raster.{on_raster, khz_most, rises}
use Rattle.reach.proofs.Ranges.{skip, same_lowest}

-- ---- a centre is between the edges of a cell exactly where its carrier overlaps the cell
module _ (w f : ℕ) (c : PlacedCell) (most : f ≤ 99999960) where
  abbrev cell_khz : ℕ
  cell_khz = khz_at c.assignment.carrier

  abbrev both : ℕ
  both = w + c.assignment.width

  pub edges_overlap : edges_contain (edges_of w c) (2 * f) ≡ overlaps f w cell_khz c.assignment.width
  unfolding edges_contain edges_of overlaps
  edges_overlap = same_test forth back
    where
      low : ℕ
      low = 2 * cell_khz + 1 - (w + min c.assignment.width 200000000)

      high : ℕ
      high = 2 * cell_khz + (w + min c.assignment.width 200000000)

      cell_most : cell_khz ≤ 99999960
      cell_most = khz_most c.assignment.carrier

      forth : (leb low (2 * f) && ltb (2 * f) high) ≡ true → (ltb (2 * f) (2 * cell_khz + both) && ltb (2 * cell_khz) (2 * f + both)) ≡ true
      forth t =
          let from = leb-true low (2 * f) (and_left (leb low (2 * f)) (ltb (2 * f) high) t) in
          let to = ltb-true (2 * f) high (and_right (leb low (2 * f)) (ltb (2 * f) high) t) in
          and_both (lt-ltb (2 * f) (2 * cell_khz + both) (omega arith)) (lt-ltb (2 * cell_khz) (2 * f + both) (omega (arith, cell_most)))

      back : (ltb (2 * f) (2 * cell_khz + both) && ltb (2 * cell_khz) (2 * f + both)) ≡ true → (leb low (2 * f) && ltb (2 * f) high) ≡ true
      back t =
          let to = ltb-true (2 * f) (2 * cell_khz + both) (and_left (ltb (2 * f) (2 * cell_khz + both)) (ltb (2 * cell_khz) (2 * f + both)) t) in
          let from = ltb-true (2 * cell_khz) (2 * f + both) (and_right (ltb (2 * f) (2 * cell_khz + both)) (ltb (2 * cell_khz) (2 * f + both)) t) in
          and_both (le-leb low (2 * f) (omega (arith, cell_most))) (lt-ltb (2 * f) high (omega (arith, cell_most)))

-- as the code tests it
pub clashes_by_edges : (q : Question) (f : ℕ) (c : PlacedCell) → f ≤ 99999960 → (edges_contain (edges_of q.width c) (2 * f) && is_near q c.position) ≡ clashes q f c
unfolding clashes
clashes_by_edges q f c most = ap (λ (t : Bool). t && is_near q c.position) (edges_overlap q.width f c most)

-- ---- some edges contain a centre exactly where some cell is in conflict
pub blocked_by_edges : (q : Question) (cs : List PlacedCell) (n : ℕ) → is_in_the_way (near_edges q cs) n ≡ blocked q cs n
unfolding in_the_way blocked clashes
blocked_by_edges q [] n = refl
blocked_by_edges q (c ∷ cs) n = go (is_near q c.position) (blocked_by_edges q cs n)
  where
    u : Bool
    u = overlaps (khz_at n) q.width (khz_at c.assignment.carrier) c.assignment.width

    own : Edges
    own = edges_of q.width c

    some_of : (t : Bool) (x : ℕ) (o : Option ℕ) → is_some (cond t (Some x) o) ≡ (t || is_some o)
    some_of true x o = refl
    some_of false x o = refl

    alone : (t b : Bool) → (t || b) ≡ ((t && true) || b)
    alone true b = refl
    alone false b = refl

    neither : (t b : Bool) → b ≡ ((t && false) || b)
    neither true b = refl
    neither false b = refl

    near_cells : List PlacedCell
    near_cells = filter (λ d. is_near q d.position) cs

    go : (far : Bool) → is_in_the_way (near_edges q cs) n ≡ blocked q cs n
        → is_some (in_the_way (2 * khz_at n) (map (edges_of q.width) (cond far (c ∷ near_cells) near_cells))) ≡ ((u && far) || blocked q cs n)
    go false rest = rest ∙ neither u (blocked q cs n)
    go true rest =
        some_of (edges_contain own (2 * khz_at n)) own.to (in_the_way (2 * khz_at n) (near_edges q cs))
        ∙ ap₂ (λ (t b : Bool). t || b) (edges_overlap q.width (khz_at n) c (khz_most n)) rest ∙ alone u (blocked q cs n)

-- so the lowest number that is in none of them is the one that conflicts with none
pub free_by_edges : (q : Question) (cs : List PlacedCell) (es : List Edges) (first more : ℕ) → es ≡ near_edges q cs
    → lowest_free (is_in_the_way es) first more ≡ lowest_free (blocked q cs) first more
free_by_edges q cs es first more same =
    ap (λ (l : List Edges). lowest_free (is_in_the_way l) first more) same
    ∙ same_lowest (is_in_the_way (near_edges q cs)) (blocked q cs) first more (λ m h. blocked_by_edges q cs m)

-- ---- the loop of `in_the_way`: the first i do not contain the centre
module _ (centre : ℕ) (es : List Edges) (i : ℕ) (d : Edges) (more : i < length es) (passed : in_the_way centre es ≡ in_the_way centre (drop i es)) where
  next : drop i es ≡ get_or es i d ∷ drop (i + 1) es
  next = rw add-one (drop-cons es i d more)

  pub first_in_the_way : edges_contain (get_or es i d) centre ≡ true → Some (get_or es i d).to ≡ in_the_way centre es
  unfolding in_the_way
  first_in_the_way t = sym (passed ∙ simp (next, t))

  pub next_in_the_way : edges_contain (get_or es i d) centre ≡ false → in_the_way centre es ≡ in_the_way centre (drop (i + 1) es)
  unfolding in_the_way
  next_in_the_way t = passed ∙ simp (next, t)

pub none_in_the_way : (centre : ℕ) (es : List Edges) (i : ℕ) → length es ≤ i → in_the_way centre es ≡ in_the_way centre (drop i es)
    → None ≡ in_the_way centre es
unfolding in_the_way
none_in_the_way centre es i h passed =
    let none : drop i es ≡ [] = drop_of_length-le es {i = i} h in
    sym (passed ∙ simp none)

-- ---- from a centre on, those below the edge are in the way too
pub under_the_edge : (es : List Edges) (centre edge : ℕ) → in_the_way centre es ≡ Some edge → centre < edge
unfolding in_the_way edges_contain
under_the_edge [] centre edge e = absurd (never e)
  where
    never : None ≡ Some edge → ⊥
    never p = let z : ◌≡◌ {A = ℕ} 0 1 = cc in omega arith
under_the_edge (d ∷ es) centre edge e = go (either (leb d.from centre && ltb centre d.to)) (under_the_edge es centre edge)
  where
    go : ((leb d.from centre && ltb centre d.to) ≡ true) ⊎ ((leb d.from centre && ltb centre d.to) ≡ false) → (in_the_way centre es ≡ Some edge → centre < edge)
        → centre < edge
    go (inl t) rest =
        let same : d.to ≡ edge = number (simp t at e) in
        let z = ltb-true centre d.to (and_right (leb d.from centre) (ltb centre d.to) t) in
        omega arith
      where
        number : Some d.to ≡ Some edge → d.to ≡ edge
        number p = cc
    go (inr t) rest = rest (simp t at e)

pub still_in_the_way : (es : List Edges) (centre next edge : ℕ) → centre ≤ next → next < edge → in_the_way centre es ≡ Some edge
    → is_some (in_the_way next es) ≡ true
unfolding in_the_way edges_contain
still_in_the_way [] centre next edge rise under e = absurd (never e)
  where
    never : None ≡ Some edge → ⊥
    never p = let z : ◌≡◌ {A = ℕ} 0 1 = cc in omega arith
still_in_the_way (d ∷ es) centre next edge rise under e = go (either (leb d.from centre && ltb centre d.to)) (still_in_the_way es centre next edge rise under)
  where
    go : ((leb d.from centre && ltb centre d.to) ≡ true) ⊎ ((leb d.from centre && ltb centre d.to) ≡ false)
        → (in_the_way centre es ≡ Some edge → is_some (in_the_way next es) ≡ true) → is_some (in_the_way next (d ∷ es)) ≡ true
    go (inl t) rest =
        let same : d.to ≡ edge = number (simp t at e) in
        let from = leb-true d.from centre (and_left (leb d.from centre) (ltb centre d.to) t) in
        simp (le-leb d.from next (omega arith), lt-ltb next d.to (omega arith))
      where
        number : Some d.to ≡ Some edge → d.to ≡ edge
        number p = cc
    go (inr t) rest = either_way (leb d.from next && ltb next d.to) (rest (simp t at e))
      where
        either_way : (u : Bool) → is_some (in_the_way next es) ≡ true → is_some (cond u (Some d.to) (in_the_way next es)) ≡ true
        either_way true k = refl
        either_way false k = k

-- ---- the loop of `search`: `number` is reached, and what is below it is in the way
abbrev pub SearchedTo : List Edges → ℕ → ℕ → ℕ → Type 0
SearchedTo es first last n = lowest_free (is_in_the_way es) first (last + 1 - first) ≡ lowest_free (is_in_the_way es) n (last + 1 - n)

module _ (es : List Edges) (first last n : ℕ) (reached : SearchedTo es first last n) where
  pub search_free : n ≤ last → None ≡ in_the_way (2 * khz_at n) es → Ok n ≡ lowest_free (is_in_the_way es) first (last + 1 - first)
  unfolding lowest_free
  search_free inside e =
      let more : last + 1 - n ≡ suc (last - n) = omega arith in
      let clear : is_in_the_way es n ≡ false = ap is_some (sym e) in
      let found : lowest_free (is_in_the_way es) n (suc (last - n)) ≡ Ok n = simp clear in
      sym (reached ∙ ap (λ (x : ℕ). lowest_free (is_in_the_way es) n x) more ∙ found)

  pub search_end : last < n → Err NoneFree ≡ lowest_free (is_in_the_way es) first (last + 1 - first)
  unfolding lowest_free
  search_end outside =
      let none : last + 1 - n ≡ 0 = omega arith in
      sym (reached ∙ ap (λ (x : ℕ). lowest_free (is_in_the_way es) n x) none)

  module _ (inside : n ≤ last) (most : last ≤ 3279165) (edge next : ℕ) (way : Some edge ≡ in_the_way (2 * khz_at n) es) (from : FirstFrom edge next) where
    pub search_rises : n < next
    search_rises = go (either (ltb n next))
      where
        under : 2 * khz_at n < edge
        under = under_the_edge es (2 * khz_at n) edge (sym way)

        go : (ltb n next ≡ true) ⊎ (ltb n next ≡ false) → n < next
        go (inl t) = ltb-true n next t
        go (inr t) = absurd (let z = from.from n (khz_at n) (on_raster n (omega arith)) (ltb-false n next t) in omega (arith, under))

    pub search_again : SearchedTo es first last next
    search_again =
        let rise : n < next = search_rises in
        reached ∙ skip (is_in_the_way es) (next - n) n (last + 1 - n) passed ∙ ap (λ (x : ℕ). lowest_free (is_in_the_way es) x (last + 1 - n - (next - n))) at
        ∙ ap (λ (x : ℕ). lowest_free (is_in_the_way es) next x) left
      where
        at : n + (next - n) ≡ next
        at = let rise : n < next = search_rises in omega arith

        left : last + 1 - n - (next - n) ≡ last + 1 - next
        left = let rise : n < next = search_rises in omega arith

        passed : (m : ℕ) → n ≤ m → m < n + (next - n) → m < n + (last + 1 - n) → is_in_the_way es m ≡ true
        passed m low high bound =
            let rise : n < next = search_rises in
            let mine = on_raster m (omega arith) in
            let up = rises n m (khz_at n) (khz_at m) (on_raster n (omega arith)) mine low in
            still_in_the_way es (2 * khz_at n) (2 * khz_at m) edge (omega arith) (from.below m (khz_at m) mine (omega arith)) (sym way)
