-- The lines of an input are those of its blocks, where the bytes of a line that has not ended stand before the next block.
-- Assumes nothing.
use mathlib.Core.Path.{◌≡◌, refl, sym, ap, ap₂, subst, ◌∙◌}
use mathlib.Core.Bool.{Bool, true, false, cond, ◌&&◌}
use mathlib.Core.List.{List, [], ◌∷◌, ◌++◌, append_assoc, append-nil}
use mathlib.Core.Logic.{inl, inr}
use Prim.Native.Nat.{ℕ, ◌+◌, ◌-◌, ◌≤◌, ◌<◌, min}
use native.Mathlib.Omega.{arith}
use borrow.Author.Tests.{ltb-true}
use lib.Dec.{eqb, ltb}
use lib.ListN.{length, take, drop, drop_of_length-le}
use Rattle.std.proofs.lemmas.List.{length-append, take-append-drop, drop_at, take_at, drop-take, length-drop, length-take, take-take}
use Rattle.std.specs.List.{FoldsTo}
use Rattle.basics.proofs.Tests.{and_left}
use Rattle.texts.specs.declared.blocks.Between.{Between}
use Rattle.texts.specs.blocks.Lines.{ended_behind, open_behind, ended_lines, open_line, last_line, lines_fit, FirstLine, move_to_start, TakenSoFar, BlockFits, BlockTaken}
use Rattle.texts.specs.declared.blocks.Start.{Start}

-- ---- bytes behind others

ended_append : (xs ys begun : List ℕ) → ended_behind begun (xs ++ ys) ≡ ended_behind begun xs ++ ended_behind (open_behind begun xs) ys
unfolding ended_behind open_behind
ended_append [] ys begun = refl
ended_append (x ∷ xs) ys begun = go (eqb x 10) (ended_append xs ys []) (ended_append xs ys (begun ++ (x ∷ [])))
  where
    go : (t : Bool) → ended_behind [] (xs ++ ys) ≡ ended_behind [] xs ++ ended_behind (open_behind [] xs) ys
        → ended_behind (begun ++ (x ∷ [])) (xs ++ ys) ≡ ended_behind (begun ++ (x ∷ [])) xs ++ ended_behind (open_behind (begun ++ (x ∷ [])) xs) ys
        → cond t (begun ∷ ended_behind [] (xs ++ ys)) (ended_behind (begun ++ (x ∷ [])) (xs ++ ys))
        ≡ cond t (begun ∷ ended_behind [] xs) (ended_behind (begun ++ (x ∷ [])) xs) ++ ended_behind (cond t (open_behind [] xs) (open_behind (begun ++ (x ∷ [])) xs)) ys
    go true p q = ap (λ (l : List (List ℕ)). begun ∷ l) p
    go false p q = q

open_append : (xs ys begun : List ℕ) → open_behind begun (xs ++ ys) ≡ open_behind (open_behind begun xs) ys
unfolding open_behind
open_append [] ys begun = refl
open_append (x ∷ xs) ys begun = go (eqb x 10) (open_append xs ys []) (open_append xs ys (begun ++ (x ∷ [])))
  where
    go : (t : Bool) → open_behind [] (xs ++ ys) ≡ open_behind (open_behind [] xs) ys
        → open_behind (begun ++ (x ∷ [])) (xs ++ ys) ≡ open_behind (open_behind (begun ++ (x ∷ [])) xs) ys
        → cond t (open_behind [] (xs ++ ys)) (open_behind (begun ++ (x ∷ [])) (xs ++ ys))
        ≡ open_behind (cond t (open_behind [] xs) (open_behind (begun ++ (x ∷ [])) xs)) ys
    go true p q = p
    go false p q = q

fit_append : (n : ℕ) (xs ys begun : List ℕ) → lines_fit n begun (xs ++ ys) ≡ (lines_fit n begun xs && lines_fit n (open_behind begun xs) ys)
unfolding lines_fit open_behind
fit_append n [] ys begun = refl
fit_append n (x ∷ xs) ys begun = go (eqb x 10) (ltb (length begun + 1) n) (fit_append n xs ys []) (fit_append n xs ys (begun ++ (x ∷ [])))
  where
    go : (t u : Bool) → lines_fit n [] (xs ++ ys) ≡ (lines_fit n [] xs && lines_fit n (open_behind [] xs) ys)
        → lines_fit n (begun ++ (x ∷ [])) (xs ++ ys) ≡ (lines_fit n (begun ++ (x ∷ [])) xs && lines_fit n (open_behind (begun ++ (x ∷ [])) xs) ys)
        → cond t (lines_fit n [] (xs ++ ys)) (u && lines_fit n (begun ++ (x ∷ [])) (xs ++ ys))
        ≡ (cond t (lines_fit n [] xs) (u && lines_fit n (begun ++ (x ∷ [])) xs) && lines_fit n (cond t (open_behind [] xs) (open_behind (begun ++ (x ∷ [])) xs)) ys)
    go true u p q = p
    go false true p q = q
    go false false p q = refl

-- ---- the line that has not ended

-- it has no LF
pub record Open (bytes : List ℕ) : Type 0 where
  pub none_ended : ended_lines bytes ≡ []
  pub whole : open_line bytes ≡ bytes

one_more : (begun : List ℕ) (x : ℕ) → Open begun → eqb x 10 ≡ false → Open (begun ++ (x ∷ []))
unfolding ended_behind open_behind
one_more begun x h e =
    record {
      none_ended = ended_append begun (x ∷ []) [] ∙ simp (h.none_ended, e);
      whole = open_append begun (x ∷ []) [] ∙ simp (h.whole, e);
    }

still_open : (xs begun : List ℕ) → Open begun → Open (open_behind begun xs)
unfolding ended_behind open_behind
still_open [] begun h = h
still_open (x ∷ xs) begun h = go (eqb x 10) refl (still_open xs)
  where
    go : (t : Bool) → eqb x 10 ≡ t → ((b : List ℕ) → Open b → Open (open_behind b xs)) → Open (cond t (open_behind [] xs) (open_behind (begun ++ (x ∷ [])) xs))
    go true e rest = rest [] (record { none_ended = refl; whole = refl })
    go false e rest = rest (begun ++ (x ∷ [])) (one_more begun x h e)

pub open_open : (bytes : List ℕ) → Open (open_line bytes)
unfolding ended_behind open_behind
open_open bytes = still_open bytes [] (record { none_ended = refl; whole = refl })

-- it is shorter than what lines fit
fit_short : (n : ℕ) (xs begun : List ℕ) → length begun < n → lines_fit n begun xs ≡ true → length (open_behind begun xs) < n
unfolding lines_fit open_behind
fit_short n [] begun h f = h
fit_short n (x ∷ xs) begun h f = go (eqb x 10) (ltb (length begun + 1) n) refl (fit_short n xs) f
  where
    go : (t u : Bool) → ltb (length begun + 1) n ≡ u → ((b : List ℕ) → length b < n → lines_fit n b xs ≡ true → length (open_behind b xs) < n)
        → cond t (lines_fit n [] xs) (u && lines_fit n (begun ++ (x ∷ [])) xs) ≡ true → length (cond t (open_behind [] xs) (open_behind (begun ++ (x ∷ [])) xs)) < n
    go true u e rest f = rest [] (omega (arith, h)) f
    go false true e rest f =
        rest (begun ++ (x ∷ [])) (omega (arith, length-append begun (x ∷ []), ltb-true (length begun + 1) n e)) f
    go false false e rest f = absurd (let z : ◌≡◌ {A = Bool} false true = f in cc)

-- it stands at the end of the bytes
at_the_end : (xs begun : List ℕ) → (front : List ℕ) × (begun ++ xs ≡ front ++ open_behind begun xs)
unfolding open_behind
at_the_end [] begun = ([], append-nil begun)
at_the_end (x ∷ xs) begun = go (eqb x 10) (at_the_end xs []) (at_the_end xs (begun ++ (x ∷ [])))
  where
    go : (t : Bool) → ((front : List ℕ) × (xs ≡ front ++ open_behind [] xs))
        → ((front : List ℕ) × ((begun ++ (x ∷ [])) ++ xs ≡ front ++ open_behind (begun ++ (x ∷ [])) xs))
        → (front : List ℕ) × (begun ++ (x ∷ xs) ≡ front ++ cond t (open_behind [] xs) (open_behind (begun ++ (x ∷ [])) xs))
    go true p q = (begun ++ (x ∷ p.0), ap (λ (l : List ℕ). begun ++ (x ∷ l)) p.1 ∙ sym (append_assoc begun (x ∷ p.0) (open_behind [] xs)))
    go false p q = (q.0, sym (append_assoc begun (x ∷ []) xs) ∙ q.1)

pub last_bytes : (xs : List ℕ) → drop (length xs - length (open_line xs)) xs ≡ open_line xs
last_bytes xs =
    let e = at_the_end xs [] in
    let n : length xs ≡ length e.0 + length (open_line xs) = ap length e.1 ∙ length-append e.0 (open_line xs) in
    let m : length xs - length (open_line xs) ≡ length e.0 = omega (arith, n) in
    ap (λ (k : ℕ). drop k xs) m ∙ ap (λ (l : List ℕ). drop (length e.0) l) e.1 ∙ drop_at e.0 (open_line xs) (length e.0) refl

-- ---- what is taken

pub folds_append : {L A : Type 0} (R : L → A → L → Type 0) (xs ys : List A) (p q r : L) → FoldsTo R p xs q → FoldsTo R q ys r → FoldsTo R p (xs ++ ys) r
folds_append R [] ys p q r h k = subst (λ (x : _). FoldsTo R x ys r) (sym h) k
folds_append R (x ∷ xs) ys p q r h k = (h.0, h.1, folds_append R xs ys h.0 q r h.2 k)

-- ---- a block: the input buffer before and after a read, the bytes that were kept before it, and where what is read ends

module _ {L : Type 0} (takes : L → List ℕ → L → Type 0) (asks : L → Bool) (old input : List ℕ) (before : Between) (taker : L) (end : ℕ) where
  abbrev block : List ℕ
  block = take end input

  abbrev got : List ℕ
  got = drop before.kept block

  pub record Read : Type 0 where
    pub same_length : length input ≡ length old
    pub within : end ≤ length input
    pub at_least : min before.kept (length old) ≤ end
    pub kept_stands : take before.kept input ≡ take before.kept old

  module _ (read : Read) (first : L) (bytes : List ℕ) (so_far : TakenSoFar takes first bytes old before taker) where
    kept_within : before.kept ≤ length old
    kept_within = omega (arith, so_far.kept, ap length so_far.stands, length-take before.kept old)

    kept_first : before.kept ≤ end
    kept_first = omega (arith, kept_within, read.at_least)

    -- the line that has not ended stands before what is read
    block_is : block ≡ open_line bytes ++ got
    block_is =
        sym (take-append-drop before.kept block)
        ∙ ap (λ (l : List ℕ). l ++ got) (take-take before.kept end input kept_first ∙ read.kept_stands ∙ so_far.stands)

    ended_is : ended_lines (bytes ++ got) ≡ ended_lines bytes ++ ended_lines block
    ended_is =
        let plain = open_open bytes in
        let more : ended_lines block ≡ ended_behind (open_line bytes) got =
        ap ended_lines block_is ∙ ended_append (open_line bytes) got [] ∙ ap₂ (λ (l : List (List ℕ)) (b : List ℕ). l ++ ended_behind b got) plain.none_ended plain.whole in
        ended_append bytes got [] ∙ ap (λ (l : List (List ℕ)). ended_lines bytes ++ l) (sym more)

    open_is : open_line (bytes ++ got) ≡ open_line block
    open_is =
        let plain = open_open bytes in
        open_append bytes got [] ∙ ap (λ (b : List ℕ). open_behind b got) (sym plain.whole) ∙ sym (open_append (open_line bytes) got []) ∙ ap open_line (sym block_is)

    taken_on : (last : L) → FoldsTo takes taker (ended_lines block) last → FoldsTo takes first (ended_lines (bytes ++ got)) last
    taken_on last h =
        subst (λ (l : List (List ℕ)). FoldsTo takes first l last) (sym ended_is)
        (folds_append takes (ended_lines bytes) (ended_lines block) first taker last so_far.taken h)

    -- nothing was read: the line that has not ended is the last one
    nothing_more : end ≤ before.kept → (bytes ++ got ≡ bytes) × (block ≡ open_line bytes)
    nothing_more h =
        let none : got ≡ [] = drop_of_length-le block (omega (arith, h, length-take end input)) in (
          ap (λ (l : List ℕ). bytes ++ l) none ∙ append-nil bytes,
          block_is ∙ ap (λ (l : List ℕ). open_line bytes ++ l) none ∙ append-nil (open_line bytes),
        )

  pub block_end : Read → (input' : List ℕ) (after : Between) (last : L) → end ≤ before.kept → FoldsTo takes taker (last_line block) last
      → BlockTaken takes asks got old before taker input' after last false
  block_end read input' after last h t =
      record {
        ends = λ m first bytes f.
            let s = f.so_far in
            let nothing = nothing_more read first bytes s h in
            inl (subst (λ (l : List ℕ). FoldsTo takes first (ended_lines l ++ last_line (open_line l)) last) (sym nothing.0)
            (folds_append takes (ended_lines bytes) (last_line (open_line bytes)) first taker last s.taken
            (subst (λ (l : List ℕ). FoldsTo takes taker (last_line l) last) nothing.1 t)));
        goes_on = λ m. absurd (let z : ◌≡◌ {A = Bool} false true = m in cc);
        reads_some = λ m. absurd (let z : ◌≡◌ {A = Bool} false true = m in cc);
      }

  -- the lines of what is read are taken, and the one that has not ended is moved to the start
  pub record Lines (start : Start) (last : L) (left moved : ℕ) (moved_input : List ℕ) : Type 0 where
    pub read : Read
    pub some_read : before.kept < end
    pub first : FirstLine block before.skipping start
    pub lines : FoldsTo takes taker (ended_lines (take (end - start.from) (drop start.from input))) last
    pub left_open : left ≡ length (open_line (take (end - start.from) (drop start.from input)))
    pub kept_open : moved ≡ end - (end - left)
    pub moves : moved_input ≡ move_to_start (end - left) (end - (end - left)) input

  module _ (start : Start) (last : L) (left moved : ℕ) (moved_input : List ℕ) (l : Lines start last left moved moved_input) where
    module _ (first : L) (bytes : List ℕ) (so_far : TakenSoFar takes first bytes old before taker) where
      begins : start ≡ record { from = 0; skipping = false }
      begins = subst (λ (t : Bool). FirstLine block t start) so_far.none_skipped l.first

      whole : take (end - start.from) (drop start.from input) ≡ block
      whole =
          let none : end - 0 ≡ end = omega arith in
          ap (λ (s : Start). take (end - s.from) (drop s.from input)) begins ∙ ap (λ (n : ℕ). take n input) none

      block_length : length block ≡ end
      block_length = omega (arith, length-take end input, l.read.within)

      open_length : left ≡ length (open_line block)
      open_length = l.left_open ∙ ap (λ (b : List ℕ). length (open_line b)) whole

      open_within : left ≤ end
      open_within =
          let e = at_the_end block [] in
          omega (arith, open_length, ap length e.1, length-append e.0 (open_line block), block_length)

      moved_is : moved ≡ left
      moved_is = omega (arith, l.kept_open, open_within)

      all_taken : FoldsTo takes first (ended_lines (bytes ++ got)) last
      all_taken = taken_on l.read first bytes so_far last (subst (λ (b : List ℕ). FoldsTo takes taker (ended_lines b) last) whole l.lines)

      end_bytes : take left (drop (end - left) input) ≡ open_line block
      end_bytes =
          let back : end - left + left ≡ end = omega (arith, open_within) in
          let at : end - left ≡ length block - length (open_line block) = omega (arith, open_length, block_length) in
          sym (drop-take (end - left) left input) ∙ ap (λ (n : ℕ). drop (end - left) (take n input)) back ∙ ap (λ (n : ℕ). drop n block) at ∙ last_bytes block

      stands_at_start : take moved moved_input ≡ open_line (bytes ++ got)
      unfolding move_to_start
      stands_at_start =
          let n : end - (end - left) ≡ left = omega (arith, open_within) in
          let m : moved_input ≡ take left (drop (end - left) input) ++ drop left input = l.moves ∙ ap (λ (k : ℕ). move_to_start (end - left) k input) n in
          let long : length (take left (drop (end - left) input)) ≡ left = ap length end_bytes ∙ sym open_length in
          ap₂ (λ (k : ℕ) (b : List ℕ). take k b) moved_is m ∙ take_at (take left (drop (end - left) input)) (drop left input) left long ∙ end_bytes
          ∙ sym (open_is l.read first bytes so_far)

      goes_on : TakenSoFar takes first (bytes ++ got) moved_input (record { kept = moved; skipping = start.skipping }) last
      goes_on =
          record {
            kept = moved_is ∙ open_length ∙ sym (ap length (open_is l.read first bytes so_far));
            stands = stands_at_start;
            none_skipped = ap (λ (s : Start). s.skipping) begins;
            taken = all_taken;
          }

    some_got : 0 < length got
    some_got = omega (arith, length-drop before.kept block, length-take end input, l.read.within, l.some_read)

    pub block_on : (more : Bool) → more ≡ asks last
        → BlockTaken takes asks got old before taker moved_input (record { kept = moved; skipping = start.skipping }) last more
    block_on more asked =
        record {
          ends = λ m first bytes f. inr (all_taken first bytes f.so_far, inl (sym asked ∙ m));
          goes_on = λ m first bytes f. goes_on first bytes f.so_far;
          reads_some = λ m. some_got;
        }

    too_long : length old ≤ moved → (first : L) (bytes : List ℕ) → BlockFits takes got old before taker first bytes → ⊥
    too_long h first bytes f =
        let some : 0 < length old = omega (arith, l.some_read, l.read.within, l.read.same_length) in
        omega (arith, h, (goes_on first bytes f.so_far).kept, fit_short (length old) (bytes ++ got) [] some f.fits)

    pub block_long : length old ≤ moved → (after_input : List ℕ) (after : Between) (after_last : L) (more : Bool)
        → BlockTaken takes asks got old before taker after_input after after_last more
    block_long h after_input after after_last more =
        record {
          ends = λ m first bytes f. absurd (too_long h first bytes f);
          goes_on = λ m first bytes f. absurd (too_long h first bytes f);
          reads_some = λ m. some_got;
        }

-- ---- an input

-- before its first block
pub none_taken : {L : Type 0} (takes : L → List ℕ → L → Type 0) (first : L) (input : List ℕ) → TakenSoFar takes first [] input (record { kept = 0; skipping = false }) first
unfolding ended_behind open_behind
none_taken takes first input = record { kept = refl; stands = refl; none_skipped = refl; taken = refl }

-- where the lines of all bytes fit, those of the first do
pub first_fit : (n : ℕ) (bytes got : List ℕ) → lines_fit n [] (bytes ++ got) ≡ true → lines_fit n [] bytes ≡ true
first_fit n bytes got f = and_left (lines_fit n [] bytes) (lines_fit n (open_line bytes) got) (sym (fit_append n bytes got []) ∙ f)
