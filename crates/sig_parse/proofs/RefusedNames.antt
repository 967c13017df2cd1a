-- Names with commas between them, and what is refused of them.
use Rattle.sig_parse.proofs.Common.{◌≡◌, List, codes, inl, inr, arith, Name, Terminal, Leaf, mark, Separated, IsName, StopsBefore, ContinuesNothing, ContinuesList, stops_smaller, name_once, stops_nothing, Refusal, State, Reads, Cause, Refuses, RefusedBy, Settles, InName, InOne, counted, InSome, InNames, ReadsSeparated, RefusesSeparated}
use Rattle.sig_parse.proofs.CoveredParts.{covered}
use Rattle.sig_parse.proofs.RefusedLists.{List_of}
use Rattle.sig_parse.proofs.RefusedSides.{Name_of, no_operators}
use Rattle.sig_parse.proofs.PassedLanguages.{refuses_as, settled_once}
use Rattle.sig_parse.proofs.Rows.{none_of}
use Rattle.sig_parse.proofs.ReadRows.{plain_reads, plain_refused}

abbrev pub ContinuesNames : Terminal → Type 0
ContinuesNames t = ContinuesList (mark (codes ",")) ContinuesNothing t

abbrev pub NameRead : Name → State → State → Type 0
NameRead n s t = Reads (IsName n) 0 s t

abbrev pub NameRefused : Refusal → State → State → Type 0
NameRefused why s t = RefusedBy InName ContinuesNothing s t why

name_settled : (n : Name) (s t : State) → NameRead n s t → Settles (InSome IsName) ContinuesNothing s.leaves t.leaves
name_settled n s t r = settled_once Name_of ContinuesNothing name_once (λ limits x leaves is. is) n (covered r) (stops_nothing t.leaves)

pub names_read : (names : List Name) (s t : State) → ReadsSeparated NameRead (mark (codes ",")) names s t → Reads (Separated IsName (mark (codes ",")) names) 0 s t
names_read names s t h = plain_reads IsName ContinuesNothing (mark (codes ",")) (λ none. none) NameRead (λ n s t r. r) name_settled s names t h

pub names_refused : (why : Refusal) (s t : State) → RefusesSeparated NameRead NameRefused (mark (codes ",")) s t why → RefusedBy InNames ContinuesNames s t why
names_refused why s t h = plain_refused IsName ContinuesNothing (mark (codes ",")) (λ none. none) NameRead (λ n s t r. r) name_settled NameRefused (λ why s t r text. r text) why s t h

pub names_stop : (here : List Leaf) → StopsBefore (λ t. t ≡ mark (codes ",")) here → StopsBefore ContinuesNames here
names_stop here stops = stops_smaller (λ t. t ≡ mark (codes ",")) ContinuesNames only here stops where
  only : (t : Terminal) → ContinuesNames t → t ≡ mark (codes ",")
  only t (inl e) = e
  only t (inr none) = absurd none

-- the same where operators are counted
pub counted_names : {cause : Cause} {here after : List Leaf} → Refuses InNames ContinuesNames cause here after → Refuses (InOne (List_of Name_of (mark (codes ","))) (counted none_of) 0) ContinuesNames cause here after
counted_names r = refuses_as InNames (InOne (List_of Name_of (mark (codes ","))) (counted none_of) 0) ContinuesNames (λ limits leaves is. (is.0, is.1, λ kept. let none = no_operators is.0 in omega arith)) (λ limits leaves is. (is.0, is.1)) r
