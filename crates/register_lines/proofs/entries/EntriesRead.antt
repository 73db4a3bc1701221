-- Every entry, written in decimal, is read as that entry; and one with a cell number above 32 bits as none, never as that of the number modulo 2^32.
-- Assumes nothing.
use mathlib.Core.Path.{◌≡◌, refl, sym, ap, ap₂, ◌∙◌}
use mathlib.Core.Bool.{Bool, true, false, ◌&&◌}
use mathlib.Core.List.{List, [], ◌∷◌, ◌++◌, append_assoc}
use mathlib.Core.Logic.{inl, inr}
use Prim.Native.Nat.{ℕ, suc, ◌+◌, ◌-◌, ◌≤◌, ◌<◌}
use native.Mathlib.Omega.{arith}
use lib.IntN.{ℤ, pos, negsuc}
use lib.ListN.{length, drop, length-drop}
use lib.Seq.{drop-drop}
use borrow.Author.Tests.{le-ltb, lt-ltb, eq-eqb, ne_eqb}
use Rattle.std.proofs.Common.{append-nil}
use Rattle.basics.proofs.Tests.{of-both}
use Rattle.std.specs.Prelude.{Some, None}
use Rattle.texts.specs.Text.{ascii, decimal, field}
use Rattle.texts.specs.fields.Fields.{begins, next_field, number_field, field_end}
use Rattle.texts.proofs.fields.FieldsRead.{FieldEnds, first_digit, field_read, behind_field, last_read, last_ends, number_before, end_before}
use Rattle.texts.proofs.fields.Words.{word_begins, other_word}
use Rattle.register.specs.declared.CellEntry.{CellEntry}
use Rattle.register.specs.declared.Change.{Change}
use Rattle.register.specs.declared.Change.TheVariants.{Assign, Release}
use Rattle.positions.specs.declared.PlacedEntry.{PlacedEntry}
use Rattle.positions.specs.declared.PlacedEntry.TheVariants.{OfCell, OfPosition}
use Rattle.positions.specs.declared.Position.{Position}
use Rattle.positions.specs.declared.PositionEntry.{PositionEntry}
use Rattle.register_lines.specs.entries.Signed.{signed_number, signed_field, sign_text, signed_text}
use Rattle.register_lines.specs.entries.Entries.{second_field, third_field, y_at, assignment_of, assignment_at, release_of, release_at, placed_said, place_at, line_said_at, entry_with, entry_at, entry_in_line}
use Rattle.register_lines.specs.entries.Written.{change_line, place_line, entry_line, ChangeFits, CellEntryFits, SignedFits, PlaceFits, EntryFits}
use Rattle.register_lines.specs.declared.entries.CellSaid.TheVariants.{Changed, Placed}
use Rattle.register_lines.specs.declared.entries.SignedField.{SignedField}

-- ---- a number with its sign

-- a digit is no sign
no_minus : (n : ℕ) (tail : List ℕ) → begins (ascii "-") (decimal n ++ tail) ≡ false
no_minus n tail =
    let d = first_digit n in
    ap (λ (l : List ℕ). begins (ascii "-") (l ++ tail)) d.2 ∙ other_word (ascii "-") (d.0 ∷ (d.1 ++ tail)) (ap (λ (t : Bool). t && true) (ne_eqb 45 d.0 (λ q. omega (arith, q, d.3))))

-- a number with its sign as it is written, without the blank before it
abbrev written : ℤ → List ℕ
written (pos n) = decimal n
written (negsuc n) = 45 ∷ decimal (suc n)

behind_blank : (z : ℤ) → signed_text z ≡ 32 ∷ written z
unfolding sign_text field
behind_blank (pos n) = ap (λ (t : Bool). sign_text t n) (le-ltb n 0 (omega arith))
behind_blank (negsuc n) = refl

-- behind a byte, a sign or the blank
byte_behind : (line : List ℕ) (at b : ℕ) (rest : List ℕ) → drop at line ≡ b ∷ rest → drop (next_field line at) line ≡ rest
unfolding next_field
byte_behind line at b rest e =
    let long : length line - at ≡ suc (length rest) = sym (length-drop at line) ∙ ap length e in
    let next : next_field line at ≡ at + 1 = omega arith in
    ap (λ (k : ℕ). drop k line) next ∙ sym (drop-drop 1 at line) ∙ ap (drop 1) e

record Read (line : List ℕ) (at : ℕ) (z : ℤ) (tail : List ℕ) : Type 0 where
  number : (signed_field line at).number ≡ Some z
  behind : drop (signed_field line at).end line ≡ tail

signed_read : (line : List ℕ) (at : ℕ) (z : ℤ) (tail : List ℕ) → FieldEnds tail → SignedFits z → drop at line ≡ written z ++ tail → Read line at z tail
unfolding signed_field signed_number
signed_read line at (pos n) tail ends fits e =
    let sign : begins (ascii "-") (drop at line) ≡ false = ap (begins (ascii "-")) e ∙ no_minus n tail in
    let small : n ≤ 18446744073709551615 = omega (arith, fits) in
    record {
      number = simp (sign, number_before line at n small tail ends e, le-ltb 9223372036854775807 n fits);
      behind = simp sign (end_before line at n small tail ends e);
    }
signed_read line at (negsuc n) tail ends fits e =
    let sign : begins (ascii "-") (drop at line) ≡ true = ap (begins (ascii "-")) e ∙ word_begins (ascii "-") (decimal (suc n) ++ tail) in
    let small : suc n ≤ 18446744073709551615 = omega (arith, fits) in
    let digits = byte_behind line at 45 (decimal (suc n) ++ tail) e in
    record {
      number = simp (sign, number_before line (next_field line at) (suc n) small tail ends digits, le-ltb 9223372036854775807 (suc n) fits);
      behind = simp sign (end_before line (next_field line at) (suc n) small tail ends digits);
    }

-- ---- behind a letter and its blank

behind_letter : (line : List ℕ) (at a b : ℕ) (rest : List ℕ) → drop at line ≡ a ∷ b ∷ rest → drop (next_field line (next_field line at)) line ≡ rest
unfolding next_field
behind_letter line at a b rest e =
    let long : length line - at ≡ suc (suc (length rest)) = sym (length-drop at line) ∙ ap length e in
    let next : next_field line (next_field line at) ≡ at + 2 = omega arith in
    ap (λ (k : ℕ). drop k line) next ∙ sym (drop-drop 2 at line) ∙ ap (drop 2) e

-- ---- a change, from its letter on; it ends with the line

assignment_read : (line : List ℕ) (at n c w : ℕ) → n ≤ 4294967295 → c ≤ 18446744073709551615 → w ≤ 18446744073709551615
    → drop at line ≡ decimal n ++ (32 ∷ (decimal c ++ (32 ∷ decimal w)))
    → assignment_at line at ≡ Some (record { cell = n; said = Changed (Assign (record { carrier = c; width = w })); end = length line })
unfolding assignment_at assignment_of
assignment_read line at n c w ln lc lw e =
    let e2 = behind_field line at n (decimal c ++ (32 ∷ decimal w)) e in
    let e3 = behind_field line (second_field line at) c (decimal w) e2 in
    simp (
      field_read line at n (decimal c ++ (32 ∷ decimal w)) (omega arith) e,
      field_read line (second_field line at) c (decimal w) lc e2,
      last_read line (third_field line at) w lw e3,
      last_ends line (third_field line at) w e3,
      le-ltb 4294967295 n ln,
    )

release_read : (line : List ℕ) (at n : ℕ) → n ≤ 4294967295 → drop at line ≡ decimal n
    → release_at line at ≡ Some (record { cell = n; said = Changed Release; end = length line })
unfolding release_at release_of
release_read line at n ln e = simp (last_read line at n (omega arith) e, last_ends line at n e, le-ltb 4294967295 n ln)

change_read : (line : List ℕ) (at n : ℕ) (k : Change) → n ≤ 4294967295 → ChangeFits k → drop at line ≡ change_line n k
    → line_said_at line at ≡ Some (record { cell = n; said = Changed k; end = length line })
unfolding line_said_at field
change_read line at n (Assign a) ln fits e =
    let rest = decimal n ++ (32 ∷ (decimal a.carrier ++ (32 ∷ decimal a.width))) in
    let letter : begins (ascii "a ") (drop at line) ≡ true = ap (begins (ascii "a ")) e ∙ word_begins (ascii "a ") rest in
    simp letter (assignment_read line _ n a.carrier a.width ln fits.0 fits.1 (behind_letter line at 97 32 rest e))
change_read line at n Release ln fits e =
    let other : begins (ascii "a ") (drop at line) ≡ false = ap (begins (ascii "a ")) e ∙ other_word (ascii "a ") (ascii "r " ++ decimal n) refl in
    let letter : begins (ascii "r ") (drop at line) ≡ true = ap (begins (ascii "r ")) e ∙ word_begins (ascii "r ") (decimal n) in
    simp (other, letter) (release_read line _ n ln (behind_letter line at 114 32 (decimal n) e))

-- ---- a position, from its letter on; it ends with the line

-- nothing behind a field: it ends the line
ends_line : (line : List ℕ) (end : ℕ) → end ≤ length line → drop end line ≡ [] → end ≡ length line
ends_line line end within e = let none : length line - end ≡ 0 = sym (length-drop end line) ∙ ap length e in omega arith

end_within : (line : List ℕ) (at : ℕ) → (signed_field line at).end ≤ length line
unfolding signed_field number_field field_end
end_within line at = of-both (λ (f : SignedField). f.end ≤ length line) (begins (ascii "-") (drop at line)) (omega arith) (omega arith)

place_read : (line : List ℕ) (at n : ℕ) (p : Position) → n ≤ 4294967295 → SignedFits p.x → SignedFits p.y
    → drop at line ≡ decimal n ++ (32 ∷ (written p.x ++ (32 ∷ written p.y)))
    → place_at line at ≡ Some (record { cell = n; said = Placed p; end = length line })
unfolding place_at placed_said
place_read line at n p ln fx fy e =
    let cell = field_read line at n (written p.x ++ (32 ∷ written p.y)) (omega arith) e in
    let e2 = behind_field line at n (written p.x ++ (32 ∷ written p.y)) e in
    let x = signed_read line (second_field line at) p.x (32 ∷ written p.y) (inr (written p.y, refl)) fx e2 in
    let e3 = byte_behind line (signed_field line (second_field line at)).end 32 (written p.y) x.behind in
    let y = signed_read line (y_at line at) p.y [] (inl refl) fy (e3 ∙ sym (append-nil (written p.y))) in
    let end = ends_line line (signed_field line (y_at line at)).end (end_within line (y_at line at)) y.behind in
    simp (cell, x.number, y.number, end, le-ltb 4294967295 n ln)

-- a position's line from its letter on
place_text : (n : ℕ) (p : Position) → place_line n p ≡ 112 ∷ 32 ∷ (decimal n ++ (32 ∷ (written p.x ++ (32 ∷ written p.y))))
unfolding field
place_text n p = ap₂ (λ (x y : List ℕ). 112 ∷ 32 ∷ (decimal n ++ (x ++ y))) (behind_blank p.x) (behind_blank p.y)

position_read : (line : List ℕ) (at n : ℕ) (p : Position) → n ≤ 4294967295 → SignedFits p.x → SignedFits p.y → drop at line ≡ place_line n p
    → line_said_at line at ≡ Some (record { cell = n; said = Placed p; end = length line })
unfolding line_said_at
position_read line at n p ln fx fy e =
    let rest = decimal n ++ (32 ∷ (written p.x ++ (32 ∷ written p.y))) in
    let whole : drop at line ≡ 112 ∷ 32 ∷ rest = e ∙ place_text n p in
    let no_a : begins (ascii "a ") (drop at line) ≡ false = ap (begins (ascii "a ")) whole ∙ other_word (ascii "a ") (112 ∷ 32 ∷ rest) refl in
    let no_r : begins (ascii "r ") (drop at line) ≡ false = ap (begins (ascii "r ")) whole ∙ other_word (ascii "r ") (112 ∷ 32 ∷ rest) refl in
    let letter : begins (ascii "p ") (drop at line) ≡ true = ap (begins (ascii "p ")) whole ∙ word_begins (ascii "p ") rest in
    simp (no_a, no_r, letter) (place_read line _ n p ln fx fy (behind_letter line at 112 32 rest whole))

-- ---- the line

pub entry_read : (e : PlacedEntry) → EntryFits e → entry_in_line (entry_line e) ≡ Some e
unfolding entry_in_line entry_at entry_with field
entry_read (OfCell e) fits =
    let line = entry_line (OfCell e) in
    let rest = change_line e.cell e.change in
    let behind = behind_field line 6 e.slot rest refl in
    simp (
      word_begins (ascii "entry ") (decimal e.slot ++ (32 ∷ rest)),
      field_read line 6 e.slot rest fits.0 refl,
      change_read line (second_field line 6) e.cell e.change fits.1 fits.2 behind,
      eq-eqb (length line) (length line) refl,
    )
entry_read (OfPosition e) fits =
    let line = entry_line (OfPosition e) in
    let rest = place_line e.cell e.position in
    let behind = behind_field line 6 e.slot rest refl in
    simp (
      word_begins (ascii "entry ") (decimal e.slot ++ (32 ∷ rest)),
      field_read line 6 e.slot rest fits.0 refl,
      position_read line (second_field line 6) e.cell e.position fits.1 fits.2 fits.3 behind,
      eq-eqb (length line) (length line) refl,
    )

-- ---- a cell number above 32 bits, with anything behind what is said of the cell

module _ (line : List ℕ) (n : ℕ) (large : 4294967295 < n) (fits : n ≤ 18446744073709551615) where
  assignment_none : (at : ℕ) (rest : List ℕ) → drop at line ≡ decimal n ++ (32 ∷ rest) → assignment_at line at ≡ None
  unfolding assignment_at assignment_of
  assignment_none at rest e = simp (field_read line at n rest fits e, lt-ltb 4294967295 n large)

  release_none : (at : ℕ) (tail : List ℕ) → FieldEnds tail → drop at line ≡ decimal n ++ tail → release_at line at ≡ None
  unfolding release_at release_of
  release_none at tail t e = simp (number_before line at n fits tail t e, lt-ltb 4294967295 n large)

  place_none : (at : ℕ) (rest : List ℕ) → drop at line ≡ decimal n ++ (32 ∷ rest) → place_at line at ≡ None
  unfolding place_at placed_said
  place_none at rest e = simp (field_read line at n rest fits e, lt-ltb 4294967295 n large)

  pub large_cell : (at : ℕ) (k : Change) (tail : List ℕ) → FieldEnds tail → drop at line ≡ change_line n k ++ tail → line_said_at line at ≡ None
  unfolding line_said_at field
  large_cell at (Assign a) tail t e =
      let rest = (decimal a.carrier ++ (32 ∷ decimal a.width)) ++ tail in
      let whole : drop at line ≡ 97 ∷ 32 ∷ (decimal n ++ (32 ∷ rest)) = e ∙ ap (λ (l : List ℕ). 97 ∷ 32 ∷ l) (append_assoc (decimal n) _ tail) in
      let letter : begins (ascii "a ") (drop at line) ≡ true = ap (begins (ascii "a ")) whole ∙ word_begins (ascii "a ") (decimal n ++ (32 ∷ rest)) in
      simp letter (assignment_none _ rest (behind_letter line at 97 32 _ whole))
  large_cell at Release tail t e =
      let other : begins (ascii "a ") (drop at line) ≡ false = ap (begins (ascii "a ")) e ∙ other_word (ascii "a ") (ascii "r " ++ (decimal n ++ tail)) refl in
      let letter : begins (ascii "r ") (drop at line) ≡ true = ap (begins (ascii "r ")) e ∙ word_begins (ascii "r ") (decimal n ++ tail) in
      simp (other, letter) (release_none _ tail t (behind_letter line at 114 32 _ e))

  pub large_placed : (at : ℕ) (p : Position) (tail : List ℕ) → drop at line ≡ place_line n p ++ tail → line_said_at line at ≡ None
  unfolding line_said_at
  large_placed at p tail e =
      let rest = (written p.x ++ (32 ∷ written p.y)) ++ tail in
      let whole : drop at line ≡ 112 ∷ 32 ∷ (decimal n ++ (32 ∷ rest)) =
      e ∙ ap (λ (l : List ℕ). l ++ tail) (place_text n p) ∙ ap (λ (l : List ℕ). 112 ∷ 32 ∷ l) (append_assoc (decimal n) _ tail) in
      let no_a : begins (ascii "a ") (drop at line) ≡ false = ap (begins (ascii "a ")) whole ∙ other_word (ascii "a ") (112 ∷ 32 ∷ (decimal n ++ (32 ∷ rest))) refl in
      let no_r : begins (ascii "r ") (drop at line) ≡ false = ap (begins (ascii "r ")) whole ∙ other_word (ascii "r ") (112 ∷ 32 ∷ (decimal n ++ (32 ∷ rest))) refl in
      let letter : begins (ascii "p ") (drop at line) ≡ true = ap (begins (ascii "p ")) whole ∙ word_begins (ascii "p ") (decimal n ++ (32 ∷ rest)) in
      simp (no_a, no_r, letter) (place_none _ rest (behind_letter line at 112 32 _ whole))

-- the entry's slot and cell are numbers of 64 bits
abbrev pub LargeCell : PlacedEntry → Type 0
LargeCell (OfCell e) = (e.slot ≤ 18446744073709551615) × (4294967295 < e.cell) × (e.cell ≤ 18446744073709551615)
LargeCell (OfPosition e) = (e.slot ≤ 18446744073709551615) × (4294967295 < e.cell) × (e.cell ≤ 18446744073709551615)

pub large_cell_no_entry : (e : PlacedEntry) → LargeCell e → entry_in_line (entry_line e) ≡ None
unfolding entry_in_line entry_at entry_with field
large_cell_no_entry (OfCell e) h =
    let line = entry_line (OfCell e) in
    let rest = change_line e.cell e.change in
    let none = large_cell line e.cell h.1 h.2 (second_field line 6) e.change [] (inl refl) (behind_field line 6 e.slot rest refl ∙ sym (append-nil rest)) in
    simp (word_begins (ascii "entry ") (decimal e.slot ++ (32 ∷ rest)), field_read line 6 e.slot rest h.0 refl, none)
large_cell_no_entry (OfPosition e) h =
    let line = entry_line (OfPosition e) in
    let rest = place_line e.cell e.position in
    let none = large_placed line e.cell h.1 h.2 (second_field line 6) e.position [] (behind_field line 6 e.slot rest refl ∙ sym (append-nil rest)) in
    simp (word_begins (ascii "entry ") (decimal e.slot ++ (32 ∷ rest)), field_read line 6 e.slot rest h.0 refl, none)
