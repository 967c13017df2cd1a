-- What a call that reads one file does to the files.
use Rattle.std.specs.Prelude.{◌≡◌, ◌≤◌, ℕ, List, Option, IfSome}
use Rattle.sig_text.specs.Files.{Contents, name_where_there}

-- the file is the one that was begun last; the contents stay, and the counts do not fall
pub record Reads (contents contents' : Option Contents) (at' : Option (List ℕ)) (misses misses' faults faults' : ℕ) (name : List ℕ) : Type 0 where
  pub named : IfSome at' (λ told. told ≡ name)
  pub told : IfSome contents (λ held. at' ≡ name_where_there held name)
  pub contents_stay : contents' ≡ contents
  pub misses_stay : misses ≤ misses'
  pub faults_stay : faults ≤ faults'
