-- Trace files, their instants of kinds, and that each has one reading.
use Rattle.sig_judge.proofs.Common.{◌≡◌, ◌<◌, ◌++◌, ◌⊎◌, ℕ, suc, Bool, true, false, List, [], ◌∷◌, length, map, get_or, Option, None, Some, Result, Ok, Err, bytes_eq, unwrap_or, refl, sym, ap, ◌∙◌, subst, ⊎_elim, inl, inr, arith, eqb-true, length-map, get_or_default, flat_map-cons, AllPass-from_list_all, passes_at_first, bytes_eq-Decides, IfOk, IfErr, IsErrAnd, MatchResult, IsDistinct, count_by, flat_map, list_all, Seen as SeenAt, Instant, Trace, Bounded, AreOfKinds, IsOfKind, Kind, Integer, Signal, IsTraceOf, AllGood, IsFirst, is_line_byte, kind_named, Line, lines_of, Word, words_of, not_both as good_and_wrong, one_first, kind_at, names_differ, Header, TraceAnswer, BadHeader, BadLine, OutOfMemory, IsHeaderOf, instants_in, Body, IsFirstBadPlace, IsTraceFile, are_names, bad_header, bad_row, body_of, cells_said, column_of, header_fault, instants_said, is_header, is_named_once, kinds_named, names_in, no_header, row_judge, and_second}
use Rattle.std.proofs.lemmas.List.{get_or-map}
use Rattle.sig_judge.proofs.HeaderNames.{placed_within}
use Rattle.sig_judge.proofs.ValueKinds.{cell_at_of_kind}

some_is_none : {A : Type 0} (a : A) → (let o : Option A = Some a in o ≡ None) → ⊥
some_is_none a same = cc

same_some : {A : Type 0} (a b : A) → (let o : Option A = Some a in o ≡ Some b) → a ≡ b
same_some a b same = cc

-- an instant of the signals of which each cell is of its kind
module _ (kind_of : Signal → Kind) (seen_of : Signal → SeenAt) where
  of_kinds : (signals : List Signal) → ((k : ℕ) (d : Signal) → k < length signals → IsOfKind Bounded (kind_of (get_or signals k d)) (seen_of (get_or signals k d))) → AreOfKinds Bounded (map kind_of signals) (map seen_of signals)
  of_kinds [] each = tt
  of_kinds (signal ∷ signals) each = (each 0 signal (omega arith), of_kinds signals (λ k d lt. each (suc k) d (omega (arith, lt))))

-- what a header without a fault is
header_by : (signals : List Signal) (header : Line) (a b : Bool) → list_all is_line_byte header.text ≡ a → is_header signals (names_in header) ≡ b → header_fault signals header ≡ None → is_header signals (names_in header) ≡ true
header_by signals header true true clean is none = is
header_by signals header true false clean is none = absurd (some_is_none (BadHeader header.number) (sym (rw (clean, is) refl) ∙ none))
header_by signals header false b clean is none = absurd (some_is_none (BadLine header.number) (sym (rw clean refl) ∙ none))

pub header_is : (signals : List Signal) (header : Line) → header_fault signals header ≡ None → is_header signals (names_in header) ≡ true
header_is signals header none = header_by signals header (list_all is_line_byte header.text) (is_header signals (names_in header)) refl refl none

module _ (signals : List Signal) (names : List (List ℕ)) (differ : IsDistinct bytes_eq (map (λ signal. signal.name) signals)) (header : is_header signals names ≡ true) where
  -- each signal is named once
  named_once : (k : ℕ) (d : Signal) → k < length signals → count_by (bytes_eq (get_or signals k d).name) names ≡ 1
  named_once k d lt = eqb-true _ _ (AllPass-from_list_all (λ signal. is_named_once names signal.name) signals (and_second (are_names signals names) (list_all (λ signal. is_named_once names signal.name) signals) header) k d lt)

  -- the kind of its column is its own
  own_kind : (k : ℕ) (d : Signal) → k < length signals → get_or (kinds_named signals names) (column_of names (get_or signals k d).name) Integer ≡ (get_or signals k d).kind
  own_kind k d lt =
      let name : List ℕ = (get_or signals k d).name in
      let column : ℕ = column_of names name in
      let within : column < length names = placed_within (bytes_eq name) names (omega (arith, named_once k d lt)) in
      let same : name ≡ get_or names column [] = (bytes_eq-Decides name (get_or names column [])).0 (passes_at_first (bytes_eq name) names [] within) in
      let kind : kind_named signals (get_or names column []) ≡ Some (get_or signals k d).kind = kind_at signals (get_or names column []) k d lt
      (λ j e below is. names_differ signals k j d differ lt (omega (arith, below, lt)) (λ eq. omega (arith, eq, below)) (same ∙ sym is ∙ ap (λ (s : Signal). s.name) (get_or_default signals j e d (omega (arith, below, lt)))))
      same in
      get_or-map (λ word. unwrap_or (kind_named signals word) Integer) names column [] Integer within ∙ ap (λ (o : Option Kind). unwrap_or o Integer) kind

  -- the instants of a line are of the signals' kinds
  with_instants : (words : List Word) (trace : Trace) → IsTraceOf signals trace → IsTraceOf signals (instants_said signals names words ++ trace)
  with_instants [] trace rest = rest
  with_instants (word ∷ words) trace rest =
      let kinds : List Kind = kinds_named signals names in
      let size : length kinds ≡ length names = length-map names (λ word. unwrap_or (kind_named signals word) Integer) in (
        of_kinds (λ signal. signal.kind) (λ signal. get_or (cells_said kinds (word ∷ words)) (column_of names signal.name) None) signals
            (λ k d lt.
            let within : column_of names (get_or signals k d).name < length names = placed_within (bytes_eq (get_or signals k d).name) names (omega (arith, named_once k d lt)) in
            subst (λ kind. IsOfKind Bounded kind (get_or (cells_said kinds (word ∷ words)) (column_of names (get_or signals k d).name) None)) (own_kind k d lt)
            (cell_at_of_kind kinds (word ∷ words) (column_of names (get_or signals k d).name) Integer (omega (arith, within, size)))),
        rest,
      )

  pub of_signals : (lines : List Line) → IsTraceOf signals (flat_map (λ line. instants_said signals names (words_of line.text)) lines)
  of_signals [] = tt
  of_signals (line ∷ lines) = subst (IsTraceOf signals) (sym (flat_map-cons (λ (line : Line). instants_said signals names (words_of line.text)) line lines)) (with_instants (words_of line.text) (flat_map (λ line. instants_said signals names (words_of line.text)) lines) (of_signals lines))

-- the instants that the code finds are those of the definition
module _ (signals : List Signal) (names : List (List ℕ)) (header : Header) (is : IsHeaderOf signals names header) where
  cells_mapped : (cells : List SeenAt) (those : List Signal) → map (λ column. get_or cells column None) (map (λ signal. column_of names signal.name) those) ≡ map (λ signal. get_or cells (column_of names signal.name) None) those
  cells_mapped cells [] = refl
  cells_mapped cells (signal ∷ those) = ap (λ (seen : Instant). get_or cells (column_of names signal.name) None ∷ seen) (cells_mapped cells those)

  instants_are : (words : List Word) → instants_in header words ≡ instants_said signals names words
  instants_are [] = refl
  instants_are (word ∷ words) =
      ap (λ kinds. map (λ column. get_or (cells_said kinds (word ∷ words)) column None) header.columns.items ∷ []) is.kinds
      ∙ ap (λ columns. map (λ column. get_or (cells_said (kinds_named signals names) (word ∷ words)) column None) columns ∷ []) is.columns
      ∙ ap (λ (instant : Instant). instant ∷ []) (cells_mapped (cells_said (kinds_named signals names) (word ∷ words)) signals)

  pub all_instants_are : (lines : List Line) → flat_map (λ line. instants_in header (words_of line.text)) lines ≡ flat_map (λ line. instants_said signals names (words_of line.text)) lines
  all_instants_are [] = refl
  all_instants_are (line ∷ lines) =
      flat_map-cons (λ (l : Line). instants_in header (words_of l.text)) line lines
      ∙ ap (λ (is : List Instant). is ++ flat_map (λ line. instants_in header (words_of line.text)) lines) (instants_are (words_of line.text))
      ∙ ap (λ (is : List Instant). instants_said signals names (words_of line.text) ++ is) (all_instants_are lines)
      ∙ sym (flat_map-cons (λ (l : Line). instants_said signals names (words_of l.text)) line lines)

-- a file whose first line with words is a header, and whose other lines are good
module _ (signals : List Signal) (bytes : List ℕ) (body : Body) (body_is : body_of (lines_of bytes) ≡ Some body) where
  pub a_trace : (header : Header) (trace : Trace) → header_fault signals body.header ≡ None → IsHeaderOf signals (names_in body.header) header → AllGood (row_judge header.kinds.items) 0 body.rows → trace ≡ flat_map (λ line. instants_in header (words_of line.text)) body.rows → IsTraceFile signals bytes trace
  a_trace header trace good is rows each = record {
    body = body;
    body_is = body_is;
    header = good;
    rows = subst (λ kinds. AllGood (row_judge kinds) 0 body.rows) is.kinds rows;
    each = each ∙ all_instants_are signals (names_in body.header) header is body.rows;
  }

  pub a_bad_header : (answer : TraceAnswer) → (answer ≡ OutOfMemory) ⊎ (header_fault signals body.header ≡ Some answer) → (answer ≡ OutOfMemory) ⊎ IsFirstBadPlace signals bytes answer
  a_bad_header answer why = ⊎_elim (λ memory. inl memory) (λ wrong. inr (bad_header body body_is wrong)) why

  pub a_bad_row : (header : Header) (answer : TraceAnswer) → header_fault signals body.header ≡ None → IsHeaderOf signals (names_in body.header) header → (answer ≡ OutOfMemory) ⊎ IsFirst (row_judge header.kinds.items) 0 body.rows answer → (answer ≡ OutOfMemory) ⊎ IsFirstBadPlace signals bytes answer
  a_bad_row header answer good is why = ⊎_elim
      (λ memory. inl memory)
      (λ first. inr (bad_row body body_is good (subst (λ kinds. IsFirst (row_judge kinds) 0 body.rows answer) is.kinds first)))
      why

-- of the signals' kinds
pub kinds_of_file : (signals : List Signal) (bytes : List ℕ) (trace : Trace) → IsDistinct bytes_eq (map (λ signal. signal.name) signals) → IsTraceFile signals bytes trace → IsTraceOf signals trace
kinds_of_file signals bytes trace differ file =
    subst (IsTraceOf signals) (sym file.each) (of_signals signals (names_in file.body.header) differ (header_is signals file.body.header file.header) file.body.rows)

-- a file has one trace or one first bad place, and not both
same_body : (bytes : List ℕ) (a b : Body) → body_of (lines_of bytes) ≡ Some a → body_of (lines_of bytes) ≡ Some b → a ≡ b
same_body bytes a b first second = same_some a b (sym first ∙ second)

pub one_trace : (signals : List Signal) (bytes : List ℕ) (a b : Trace) → IsTraceFile signals bytes a → IsTraceFile signals bytes b → a ≡ b
one_trace signals bytes a b first second =
    first.each
    ∙ ap (λ (body : Body). flat_map (λ line. instants_said signals (names_in body.header) (words_of line.text)) body.rows) (same_body bytes first.body second.body first.body_is second.body_is)
    ∙ sym second.each

pub not_both : (signals : List Signal) (bytes : List ℕ) (trace : Trace) (fault : TraceAnswer) → IsTraceFile signals bytes trace → IsFirstBadPlace signals bytes fault → ⊥
not_both signals bytes trace fault file (no_header none is) = some_is_none file.body (sym file.body_is ∙ none)
not_both signals bytes trace fault file (bad_header body body_is wrong) =
    let same = same_body bytes file.body body file.body_is body_is in
    some_is_none fault (sym wrong ∙ ap (λ (b : Body). header_fault signals b.header) (sym same) ∙ file.header)
not_both signals bytes trace fault file (bad_row body body_is good first) =
    let same = same_body bytes file.body body file.body_is body_is in
    good_and_wrong (row_judge (kinds_named signals (names_in body.header))) 0 body.rows fault (subst (λ (b : Body). AllGood (row_judge (kinds_named signals (names_in b.header))) 0 b.rows) same file.rows) first

pub one_fault : (signals : List Signal) (bytes : List ℕ) (a b : TraceAnswer) → IsFirstBadPlace signals bytes a → IsFirstBadPlace signals bytes b → a ≡ b
one_fault signals bytes a b (no_header none is) (no_header none_b is_b) = is ∙ sym is_b
one_fault signals bytes a b (no_header none is) (bad_header body body_is wrong) = absurd (some_is_none body (sym body_is ∙ none))
one_fault signals bytes a b (no_header none is) (bad_row body body_is good first) = absurd (some_is_none body (sym body_is ∙ none))
one_fault signals bytes a b (bad_header body body_is wrong) (no_header none is) = absurd (some_is_none body (sym body_is ∙ none))
one_fault signals bytes a b (bad_header body body_is wrong) (bad_header other other_is also) =
    same_some a b (sym wrong ∙ ap (λ (x : Body). header_fault signals x.header) (same_body bytes body other body_is other_is) ∙ also)
one_fault signals bytes a b (bad_header body body_is wrong) (bad_row other other_is good first) =
    absurd (some_is_none a (sym wrong ∙ ap (λ (x : Body). header_fault signals x.header) (same_body bytes body other body_is other_is) ∙ good))
one_fault signals bytes a b (bad_row body body_is good first) (no_header none is) = absurd (some_is_none body (sym body_is ∙ none))
one_fault signals bytes a b (bad_row body body_is good first) (bad_header other other_is wrong) =
    absurd (some_is_none b (sym wrong ∙ ap (λ (x : Body). header_fault signals x.header) (same_body bytes other body other_is body_is) ∙ good))
one_fault signals bytes a b (bad_row body body_is good first) (bad_row other other_is fine second) =
    one_first (row_judge (kinds_named signals (names_in other.header))) 0 other.rows a b (subst (λ (x : Body). IsFirst (row_judge (kinds_named signals (names_in x.header))) 0 x.rows a) (same_body bytes body other body_is other_is) first) second

-- what is given is the one trace, or the one fault
module _ {V : Type 0} (items : V → Trace) (signals : List Signal) (bytes : List ℕ) where
  pub given : (result : Result V TraceAnswer) → IfOk result (λ v. IsTraceFile signals bytes (items v)) → IfErr result (λ answer. (answer ≡ OutOfMemory) ⊎ IsFirstBadPlace signals bytes answer) → (trace : Trace) → IsTraceFile signals bytes trace → MatchResult result (λ v. items v ≡ trace) (λ answer. answer ≡ OutOfMemory)
  given (Ok v) is fault trace file = one_trace signals bytes (items v) trace is file
  given (Err answer) is fault trace file = ⊎_elim (λ memory. memory) (λ first. absurd (not_both signals bytes trace answer file first)) fault

  pub refused : (result : Result V TraceAnswer) → IfOk result (λ v. IsTraceFile signals bytes (items v)) → IfErr result (λ answer. (answer ≡ OutOfMemory) ⊎ IsFirstBadPlace signals bytes answer) → (fault : TraceAnswer) → IsFirstBadPlace signals bytes fault → IsErrAnd result (λ answer. (answer ≡ OutOfMemory) ⊎ (answer ≡ fault))
  refused (Ok v) is begins fault first = not_both signals bytes (items v) fault is first
  refused (Err answer) is begins fault first = ⊎_elim (λ memory. inl memory) (λ also. inr (one_fault signals bytes answer fault also first)) begins
