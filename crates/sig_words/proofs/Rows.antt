-- The values under an id in the rows of matches, and what a use of an argument changes.
use Rattle.sig_words.proofs.Common.{◌≡◌, Bool, true, false, List, [], ◌∷◌, ◌++◌, refl, sym, ap, cond, Some, None, find, is_some, option_map, slice_get, unwrap_or, AllByRecursion, bytes_eq, none-some, bytes_eq-Decides, Row, Text, all_of, first_of, has_row, one_of, with_values, without, read_as, AsWritten, ValueSource}
use Rattle.clap.specs.declared.builder.value_parser.Reading.{Reading}

same_text : (id : Text) → bytes_eq id id ≡ true
same_text id = (bytes_eq-Decides id id).1 refl

-- a use puts its values behind those of its id
pub values_same : (id : Text) (how : Reading) (source : ValueSource) (values : List Text) (rows : List Row)
    → all_of id (with_values id how source values rows) ≡ Some (unwrap_or (all_of id rows) [] ++ values)
values_same id how source values [] = rw (same_text id) refl
values_same id how source values (row ∷ rows) = at_test (bytes_eq row.id id) refl (values_same id how source values rows)
  where
    at_test : (b : Bool) → bytes_eq row.id id ≡ b → all_of id (with_values id how source values rows) ≡ Some (unwrap_or (all_of id rows) [] ++ values)
        → all_of id (with_values id how source values (row ∷ rows)) ≡ Some (unwrap_or (all_of id (row ∷ rows)) [] ++ values)
    at_test true is rest = rw (is, is) refl
    at_test false is rest = rw (is, is) rest

-- and leaves the others as they were
pub values_other : (id other : Text) (how : Reading) (source : ValueSource) (values : List Text) (rows : List Row) → bytes_eq id other ≡ false
    → all_of other (with_values id how source values rows) ≡ all_of other rows
values_other id other how source values [] apart = rw apart refl
values_other id other how source values (row ∷ rows) apart = at_test (bytes_eq row.id id) refl (values_other id other how source values rows apart)
  where
    past : (b : Bool) → all_of other (with_values id how source values rows) ≡ all_of other rows
        → option_map (λ (r : Row). r.values) (cond b (Some row) (find (λ (r : Row). bytes_eq r.id other) (with_values id how source values rows)))
        ≡ option_map (λ (r : Row). r.values) (cond b (Some row) (find (λ (r : Row). bytes_eq r.id other) rows))
    past true rest = refl
    past false rest = rest

    at_test : (b : Bool) → bytes_eq row.id id ≡ b → all_of other (with_values id how source values rows) ≡ all_of other rows
        → all_of other (with_values id how source values (row ∷ rows)) ≡ all_of other (row ∷ rows)
    at_test true is rest =
        let same : row.id ≡ id = (bytes_eq-Decides row.id id).0 is in
        let lacks : bytes_eq row.id other ≡ false = rw same apart in
        rw (is, lacks) refl
    at_test false is rest = rw is (past (bytes_eq row.id other) rest)

-- an id that has no row is not taken away
pub without_absent : (id : Text) (rows : List Row) → all_of id rows ≡ None → without id rows ≡ rows
without_absent id [] none = refl
without_absent id (row ∷ rows) none = at_test (bytes_eq row.id id) refl none (without_absent id rows)
  where
    at_test : (b : Bool) → bytes_eq row.id id ≡ b → option_map (λ (r : Row). r.values) (cond b (Some row) (find (λ (r : Row). bytes_eq r.id id) rows)) ≡ None
        → (all_of id rows ≡ None → without id rows ≡ rows) → without id (row ∷ rows) ≡ row ∷ rows
    at_test true is none rest = absurd (none-some row.values (sym none))
    at_test false is none rest = rw is (ap (λ (rs : List Row). row ∷ rs) (rest none))

-- an id has a row where it has values
pub has_row_all : (id : Text) (rows : List Row) → has_row id rows ≡ is_some (all_of id rows)
has_row_all id [] = refl
has_row_all id (row ∷ rows) = at_test (bytes_eq row.id id) refl (has_row_all id rows)
  where
    at_test : (b : Bool) → bytes_eq row.id id ≡ b → has_row id rows ≡ is_some (all_of id rows) → has_row id (row ∷ rows) ≡ is_some (all_of id (row ∷ rows))
    at_test true is rest = rw is refl
    at_test false is rest = rw is rest

-- every value is read as it is written
abbrev pub AreWritten : List Row → Type 0
AreWritten = AllByRecursion (λ (r : Row). r.reading ≡ AsWritten)

pub values_written : (id : Text) (source : ValueSource) (values : List Text) (rows : List Row) → AreWritten rows → AreWritten (with_values id AsWritten source values rows)
values_written id source values [] all = (refl, tt)
values_written id source values (row ∷ rows) all = at_test (bytes_eq row.id id) refl (values_written id source values rows all.1)
  where
    at_test : (b : Bool) → bytes_eq row.id id ≡ b → AreWritten (with_values id AsWritten source values rows) → AreWritten (with_values id AsWritten source values (row ∷ rows))
    at_test true is rest = rw is all
    at_test false is rest = rw is (all.0, rest)

pub one_written : (id : Text) (rows : List Row) → AreWritten rows → one_of id rows ≡ first_of id rows
one_written id [] all = refl
one_written id (row ∷ rows) all = at_test (bytes_eq row.id id) refl (one_written id rows all.1)
  where
    first_read : (how : Reading) (values : List Text) → how ≡ AsWritten
        → option_map (read_as how) (slice_get values 0) ≡ slice_get values 0
    first_read how [] is = refl
    first_read how (v ∷ vs) is = rw is refl

    at_test : (b : Bool) → bytes_eq row.id id ≡ b → one_of id rows ≡ first_of id rows → one_of id (row ∷ rows) ≡ first_of id (row ∷ rows)
    at_test true is rest = rw is (first_read row.reading row.values all.0)
    at_test false is rest = rw is rest
