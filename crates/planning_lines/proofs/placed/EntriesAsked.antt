-- Every entry, written in decimal, asks that it be entered.
-- Assumes nothing.
use mathlib.Core.Path.{◌≡◌, refl}
use Rattle.texts.specs.Text.{ascii, field}
use Rattle.texts.proofs.fields.Words.{other_word, other_line}
use Rattle.positions.specs.declared.PlacedEntry.{PlacedEntry}
use Rattle.positions.specs.declared.PlacedEntry.TheVariants.{OfCell, OfPosition}
use Rattle.register_lines.specs.entries.Written.{entry_line, EntryFits}
use Rattle.register_lines.proofs.entries.EntriesRead.{entry_read}
use Rattle.planning_lines.specs.placed.Asked.{position_line_of}
use Rattle.planning_lines.specs.declared.placed.PositionLine.TheVariants.{Enter}

pub entry_asks : (e : PlacedEntry) → EntryFits e → position_line_of (entry_line e) ≡ Enter e
unfolding position_line_of field
entry_asks (OfCell e) fits =
    let line = entry_line (OfCell e) in
    simp (
      other_line (ascii "cells") line refl,
      other_word (ascii "conflicts ") line refl,
      other_word (ascii "free ") line refl,
      entry_read (OfCell e) fits,
    )
entry_asks (OfPosition e) fits =
    let line = entry_line (OfPosition e) in
    simp (
      other_line (ascii "cells") line refl,
      other_word (ascii "conflicts ") line refl,
      other_word (ascii "free ") line refl,
      entry_read (OfPosition e) fits,
    )
