-- Files in memory.
use Rattle.std.specs.Prelude.{ℕ, ◌-◌, ◌==◌, List, [], reverse, drop, length, find, Option, None, Some, slice_index_or}
use Rattle.std.specs.Cmp.Lexicographic.{pointwise}
use Rattle.std.specs.Option.{option_map}
use Rattle.sig_text.specs.Calls.{CallsMade}
use Rattle.sig_text.specs.Files.{Contents}

-- a name, and the bytes under it
abbrev pub NamedBytes : Type 0
NamedBytes = List ℕ × List ℕ

-- the files in the order in which they were added, what is left of the one that was begun, its name,
-- how many names were missing, and the calls
pub record FilesInMemory : Type 0 where
  pub files : List NamedBytes
  pub rest : List ℕ
  pub at : Option (List ℕ)
  pub misses : ℕ
  pub calls : CallsMade

-- the last file of this name
abbrev pub last_named : List NamedBytes → List ℕ → Option NamedBytes
last_named files name = find (λ file. pointwise ◌==◌ file.0 name) (reverse files)

-- the contents that files in memory tell: a file that was added later stands in the place of an
-- earlier one of its name
abbrev pub contents_of : List NamedBytes → Contents
contents_of files name = option_map (λ file. file.1) (last_named files name)

-- the file that stands at this index
abbrev pub file_at : List NamedBytes → ℕ → NamedBytes
file_at files index = slice_index_or files index ([], [])

-- the name and the rest of the file that was begun, where it stands at this index and so many of its
-- bytes are left
abbrev pub name_at : List NamedBytes → Option ℕ → Option (List ℕ)
name_at files begun = option_map (λ index. (file_at files index).0) begun

abbrev pub rest_at : List NamedBytes → Option ℕ → ℕ → List ℕ
rest_at files None left = []
rest_at files (Some index) left =
    let bytes = (file_at files index).1 in drop (length bytes - left) bytes
