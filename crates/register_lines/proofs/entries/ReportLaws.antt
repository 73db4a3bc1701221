-- The report of an input: that of its entries, with the slot of a first line that begins the register, where each line is such a line; and else the refusal,
-- "so that no report is of half its entries".
-- Assumes nothing.
use mathlib.Core.Path.{◌≡◌, refl, ap, ◌∙◌}
use mathlib.Core.Bool.{Bool, true, false}
use mathlib.Core.List.{List, [], ◌∷◌, ◌++◌}
use Prim.Native.Nat.{ℕ, ◌≤◌}
use Rattle.basics.proofs.Tests.{of-both}
use Rattle.std.specs.Prelude.{Option, Some, None}
use Rattle.texts.specs.Text.{ascii, decimal, field}
use Rattle.texts.specs.fields.Fields.{begins, number_from}
use Rattle.texts.proofs.fields.ReadBack.{number_read}
use Rattle.register.specs.report.Report.{refusal_text, page_holding}
use Rattle.group_register.specs.Settings.{settings_from}
use Rattle.group_register.specs.GroupHistory.{apply_all_in_group}
use Rattle.group_register.specs.GroupRegister.{new_group_register, apply_in_group, group_page}
use Rattle.group_register.specs.declared.GroupRegister.{GroupRegister}
use Rattle.register_lines.specs.Answers.{first_register}
use Rattle.register_lines.specs.Written.{register_line}
use Rattle.positions.specs.PlacedTaken.{cell_entry, cell_entries}
use Rattle.positions.specs.declared.PlacedEntry.{PlacedEntry}
use Rattle.positions.specs.declared.PlacedEntry.TheVariants.{OfCell, OfPosition}
use Rattle.texts.proofs.fields.Words.{word_begins, other_word}
use Rattle.register_lines.specs.entries.Entries.{entry_in_line}
use Rattle.register_lines.specs.entries.Reports.{entries_begun, take_entry, take_settings, take_first, take_line, take_all_lines, no_lines, page_after}
use Rattle.register_lines.specs.entries.Written.{entry_line, entry_lines, EntryFits, EntriesFit}
use Rattle.register_lines.specs.declared.entries.EntriesTaken.{EntriesTaken}
use Rattle.register_lines.proofs.entries.EntriesRead.{entry_read}

no_register : (e : PlacedEntry) → begins (ascii "register ") (entry_line e) ≡ false
unfolding field
no_register (OfCell e) = other_word (ascii "register ") (entry_line (OfCell e)) refl
no_register (OfPosition e) = other_word (ascii "register ") (entry_line (OfPosition e)) refl

module _ (g : GroupRegister) where
  entry_taken : (e : PlacedEntry) → EntryFits e → (begun : Bool)
      → take_line (Some (record { group = g; begun = begun })) (entry_line e) ≡ entries_begun (apply_in_group g (cell_entry e)).group
  unfolding take_line take_first take_entry
  entry_taken e fits true = ap (take_entry g) (entry_read e fits)
  entry_taken e fits false = simp (no_register e) (ap (take_entry g) (entry_read e fits))

entries_reported : (g : GroupRegister) (begun : Bool) (es : List PlacedEntry) → EntriesFit es
    → page_after (take_all_lines (Some (record { group = g; begun = begun })) (entry_lines es)) ≡ group_page (apply_all_in_group g (cell_entries es))
unfolding page_after take_all_lines entry_lines apply_all_in_group
entries_reported g begun [] fits = refl
entries_reported g begun (e ∷ es) fits =
    ap (λ (t : Option EntriesTaken). page_after (take_all_lines t (entry_lines es))) (entry_taken g e fits.0 begun)
    ∙ entries_reported (apply_in_group g (cell_entry e)).group _ es fits.1

pub report_of_entries : (es : List PlacedEntry) → EntriesFit es
    → page_after (take_all_lines no_lines (entry_lines es)) ≡ group_page (apply_all_in_group first_register (cell_entries es))
report_of_entries es fits = entries_reported first_register false es fits

-- ---- a first line `register SLOT`

settings_taken : (slot : ℕ) → slot ≤ 18446744073709551615 → take_line no_lines (register_line slot) ≡ entries_begun (new_group_register (settings_from slot))
unfolding take_line take_first take_settings number_from field
settings_taken slot small = rw (word_begins (ascii "register ") (decimal slot), number_read slot small) refl

pub report_of_settings : (slot : ℕ) (es : List PlacedEntry) → slot ≤ 18446744073709551615 → EntriesFit es
    → page_after (take_all_lines no_lines (register_line slot ∷ entry_lines es)) ≡ group_page (apply_all_in_group (new_group_register (settings_from slot)) (cell_entries es))
unfolding take_all_lines
report_of_settings slot es small fits =
    ap (λ (t : Option EntriesTaken). page_after (take_all_lines t (entry_lines es))) (settings_taken slot small)
    ∙ entries_reported (new_group_register (settings_from slot)) _ es fits

-- ---- a line that is none of these

stays_refused : (lines : List (List ℕ)) → take_all_lines None lines ≡ None
unfolding take_all_lines take_line
stays_refused [] = refl
stays_refused (line ∷ lines) = stays_refused lines

refused_first : (t : Option EntriesTaken) (line : List ℕ) → begins (ascii "register ") line ≡ false → entry_in_line line ≡ None → take_line t line ≡ None
unfolding take_line take_first take_entry
refused_first None line other none = refl
refused_first (Some t) line other none = simp (other, none) (of-both (λ (x : Option EntriesTaken). x ≡ None) t.begun refl refl)

refused_within : (t : Option EntriesTaken) (before : List (List ℕ)) (line : List ℕ) (behind : List (List ℕ)) → begins (ascii "register ") line ≡ false
    → entry_in_line line ≡ None → take_all_lines t (before ++ (line ∷ behind)) ≡ None
unfolding take_all_lines
refused_within t [] line behind other none = ap (λ (o : Option EntriesTaken). take_all_lines o behind) (refused_first t line other none) ∙ stays_refused behind
refused_within t (next ∷ before) line behind other none = refused_within (take_line t next) before line behind other none

pub no_half_report : (before : List (List ℕ)) (line : List ℕ) (behind : List (List ℕ)) → begins (ascii "register ") line ≡ false → entry_in_line line ≡ None
    → page_after (take_all_lines no_lines (before ++ (line ∷ behind))) ≡ page_holding (refusal_text 1)
unfolding page_after
no_half_report before line behind other none = simp (refused_within no_lines before line behind other none)

-- ---- nor does a line that begins a register stand behind another

-- refused, or not without a line
abbrev Begun : Option EntriesTaken → Type 0
Begun None = Unit {0}
Begun (Some t) = t.begun ≡ true

entry_begins : (g : GroupRegister) (o : Option PlacedEntry) → Begun (take_entry g o)
unfolding take_entry
entry_begins g (Some e) = refl
entry_begins g None = tt

settings_begin : (o : Option ℕ) → Begun (take_settings o)
unfolding take_settings
settings_begin (Some slot) = refl
settings_begin None = tt

line_begins : (t : Option EntriesTaken) (line : List ℕ) → Begun (take_line t line)
unfolding take_line take_first
line_begins None line = tt
line_begins (Some t) line =
    of-both Begun t.begun (entry_begins t.group (entry_in_line line))
    (of-both Begun (begins (ascii "register ") line) (settings_begin (number_from line 9)) (entry_begins t.group (entry_in_line line)))

refused_later : (t : Option EntriesTaken) (line : List ℕ) → Begun t → entry_in_line line ≡ None → take_line t line ≡ None
unfolding take_line take_entry
refused_later None line begun none = refl
refused_later (Some t) line begun none = simp (begun, none)

refused_behind : (t : Option EntriesTaken) (before : List (List ℕ)) (line : List ℕ) (behind : List (List ℕ)) → Begun t → entry_in_line line ≡ None
    → take_all_lines t (before ++ (line ∷ behind)) ≡ None
unfolding take_all_lines
refused_behind t [] line behind begun none = ap (λ (o : Option EntriesTaken). take_all_lines o behind) (refused_later t line begun none) ∙ stays_refused behind
refused_behind t (next ∷ before) line behind begun none = refused_behind (take_line t next) before line behind (line_begins t next) none

pub no_second_register : (first : List ℕ) (before : List (List ℕ)) (line : List ℕ) (behind : List (List ℕ)) → entry_in_line line ≡ None
    → page_after (take_all_lines no_lines (first ∷ (before ++ (line ∷ behind)))) ≡ page_holding (refusal_text 1)
unfolding page_after take_all_lines
no_second_register first before line behind none =
    simp (refused_behind (take_line no_lines first) before line behind (line_begins no_lines first) none)
