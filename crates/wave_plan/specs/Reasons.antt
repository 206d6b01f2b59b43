-- Which files are in the first wave, and why.
use Rattle.std.specs.Prelude.{ℕ, ◌+◌, ◌==◌, ◌&&◌, not, Bool, List, [], ◌∷◌, ◌++◌, map, find, nat_eq, Option, Some, None, if◌then◌else◌}
use Rattle.std.specs.Cmp.Lexicographic.{pointwise}
use Rattle.drv_outside.specs.declared.types.Stamp.{Stamp}
use Rattle.drv_outside.specs.declared.types.Entry.{Entry}
use Rattle.build_record.specs.declared.record.FileState.{FileState}
use Rattle.file_map.specs.declared.names.FileNames.{FileNames}
use Rattle.wave_plan.specs.declared.plan.Why.{Why}
use Rattle.wave_plan.specs.declared.plan.Why.TheVariants.{New, Changed, Dirty, MissingOutput, NoPriors}
use Rattle.wave_plan.specs.declared.plan.FirstFile.{FirstFile}

-- What a record has of the file at a path.
abbrev pub recorded_at : List FileState → List ℕ → Option FileState
recorded_at files path = find (λ file. pointwise nat_eq file.path path) files

abbrev pub is_same_stamp : Stamp → Stamp → Bool
is_same_stamp one other = one.secs == other.secs && one.nanos == other.nanos && one.size == other.size

-- The stamp of a listed file isn't the recorded one.
abbrev pub has_changed : FileState → Entry → Bool
has_changed file entry = not (is_same_stamp file.stamp entry.stamp)

-- The file had errors.
abbrev pub is_dirty : FileState → Bool
is_dirty file = not file.clean

-- The folder lacks one of the three outputs of a file.
abbrev pub misses_output : (List ℕ → Bool) → FileNames → Bool
misses_output is_held outputs = not (is_held outputs.object && is_held outputs.partial && is_held outputs.deps)

-- Why a listed file is in the first wave: the first that holds of new, changed, dirty and missing output.
abbrev pub reason_of : Option FileState → Entry → Bool → Option Why
reason_of None entry misses = Some New
reason_of (Some file) entry misses = if has_changed file entry then Some Changed else (if is_dirty file then Some Dirty else (if misses then Some MissingOutput else None))

-- The reason of each listed file that has one.
abbrev pub reasons : (List ℕ → Option FileState) → (List ℕ → Bool) → List Entry → List FileNames → List (Option Why)
reasons recorded is_held (entry ∷ entries) (outputs ∷ more) = reason_of (recorded entry.path) entry (misses_output is_held outputs) ∷ reasons recorded is_held entries more
reasons recorded is_held [] more = []
reasons recorded is_held (entry ∷ entries) [] = []

-- A file with this number, where it has a reason.
abbrev pub numbered : ℕ → Option Why → List FirstFile
numbered number None = []
numbered number (Some why) = record { no = number; why = why } ∷ []

-- The files with a reason, where the files are numbered from this number on.
abbrev pub first_files : ℕ → List (Option Why) → List FirstFile
first_files number [] = []
first_files number (reason ∷ reasons) = numbered number reason ++ first_files (number + 1) reasons

-- Each listed file is in the first wave for want of valid priors.
abbrev pub all_files : List Entry → List FirstFile
all_files listed = first_files 0 (map (λ entry. Some NoPriors) listed)
