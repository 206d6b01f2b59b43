-- The names of modules that the table is about.
use Rattle.std.proofs.Common.{◌≡◌, true, codes, refl}
use Rattle.output_names.specs.ModuleNames.{is_module_name}

pub m_is_name : is_module_name (codes "M") ≡ true
unfolding is_module_name
m_is_name = refl

pub bench_is_name : is_module_name (codes "Bench") ≡ true
unfolding is_module_name
bench_is_name = refl
