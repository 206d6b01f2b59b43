-- The names that modules may have.
use Rattle.std.specs.Prelude.{ℕ, Bool, ◌&&◌, nat_le, List, length}
use Rattle.swift_token.specs.Texts.{is_identifier}
use Rattle.output_names.specs.declared.module_names.TheConstants.{MAX_MODULE_NAME_BYTES}

-- A module's name is an identifier of at most MAX_MODULE_NAME_BYTES bytes.
unfoldable pub is_module_name : List ℕ → Bool
is_module_name name = nat_le (length name) MAX_MODULE_NAME_BYTES && is_identifier name
