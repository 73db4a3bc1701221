-- What a register keeps of the settings of its group, as a host gives them (document 02, E13).
-- Assumes nothing.
use Rattle.group_register.specs.GroupRegister.{group_register}
use Rattle.group_register.specs.declared.GroupRegister.{GroupRegister}
use Rattle.group_register.specs.declared.RegisterSettings.{RegisterSettings}
use Rattle.group_settings.specs.GroupSettings.{flat_settings_number}
use Rattle.group_settings.specs.declared.FlatGroupSettings.{FlatGroupSettings}
use Rattle.register.specs.stored.Stored.{widened}
use Rattle.register.specs.declared.stored.StoredRegister.{StoredRegister}

-- the number of the settings, and the slot from which widths are in whole MHz
abbrev pub register_settings : FlatGroupSettings → RegisterSettings
register_settings f = record { number = flat_settings_number f; whole_mhz_from = f.whole_mhz_from }

-- the register that a stored one becomes, with the settings that it is read with (E7)
abbrev pub widened_with : FlatGroupSettings → StoredRegister → GroupRegister
widened_with f stored = group_register (register_settings f) (widened stored)
