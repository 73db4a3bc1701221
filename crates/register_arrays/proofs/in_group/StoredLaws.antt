-- A stored register whose entries all stood before the slot, read with settings and gone on with, is the register of all its entries under these settings
-- (document 02, E7 and E13): "Earlier entries remain valid and keep their width in the register and their count in the report."
-- Assumes nothing.
use mathlib.Core.Path.{◌≡◌, sym, ap₂, ◌∙◌}
use mathlib.Core.Bool.{true}
use mathlib.Core.List.{List, reverse_aux}
use Rattle.register.specs.History.{register_after}
use Rattle.register.specs.declared.CellEntry.{CellEntry}
use Rattle.register.specs.declared.Register.{Register}
use Rattle.register.specs.stored.Stored.{stored_of, OldEntries, widened}
use Rattle.register.proofs.stored.Laws.{register_kept}
use Rattle.group_register.specs.Settings.{is_made}
use Rattle.group_register.specs.GroupRegister.{group_register}
use Rattle.group_register.specs.GroupHistory.{group_after, apply_all_in_group, AllBefore}
use Rattle.group_register.specs.declared.RegisterSettings.{RegisterSettings}
use Rattle.group_register.proofs.GroupLaws.{early_as_before, settings_after, group_in_order}

-- the old entries stand latest first, and the new ones in their order
module _ (s : RegisterSettings) (made : is_made s ≡ true) (old : List CellEntry) (few : OldEntries old) (early : AllBefore s.whole_mhz_from old) where
  pub stored_then_applied : (new : List CellEntry)
      → apply_all_in_group (group_register s (widened (stored_of (register_after old)))) new ≡ group_after s (reverse_aux new old)
  stored_then_applied new =
      ap₂ (λ (t : RegisterSettings) (r : Register). apply_all_in_group (group_register t r) new) (sym (settings_after s old))
      (register_kept old few ∙ sym (early_as_before s made old early))
      ∙ group_in_order s new old
