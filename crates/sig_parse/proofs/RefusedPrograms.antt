-- What is refused of programs, from what is refused of their processes.
use Rattle.sig_parse.proofs.Common.{◌≡◌, ◌≢◌, ◌++◌, ◌⊎◌, List, [], ◌∷◌, inl, inr, refl, sym, ap, ◌∙◌, subst, append_assoc, append-nil, Span, ProcessModel, Leaf, Limits, both_limits, nesting_limit, no_limits, Each, IsModel, IsProgram, Begins, HasTree, StopsBefore, ContinuesNothing, model_unlimited, model_within, program_unlimited, program_within, model_once, Refusal, Syntax, Nesting, Operators, ParseAnswer, OutOfMemory as NoMemory, State, Covers, Cause, Wrong, TooDeep, TooMany, refused_within, Agrees, ReachesNext, IsAllowed, Refuses, RefusedBy, place_of, answer_of, GoesOn, GoesOnOtherwise, IsRefused, answer_for, IsAnswerOf, IsFirstRefusal, InProcess, InProgram, IsAnything}
use Rattle.sig_parse.specs.declared.refusal.Refusal.TheVariants.{OutOfMemory}
use Rattle.sig_parse.proofs.PartRefusals.{SameFirst}
use Rattle.sig_parse.proofs.PassedLanguages.{Leads, Then, leads_refuses, leads_on, refuses_where, leads_where, apart_nothing, then_first, leads_alone}

abbrev Model : Limits → ProcessModel → List Leaf → Type 0
Model limits model leaves = IsModel limits model 0 leaves

-- any number of processes
abbrev pub Processes : Limits → List Leaf → Type 0
Processes limits leaves = (models : List ProcessModel) × Each (λ model. IsModel limits model 0) models leaves

abbrev One : Limits → List Leaf → Type 0
One limits leaves = Then Model Processes limits leaves

program_of : (limits : Limits) (leaves : List Leaf) → One limits leaves → InProgram limits leaves
program_of limits leaves (model, front, back, e, is, (models, each)) = (model ∷ models, ((λ f. cc), (front, back, e, is, each)))

of_program : (limits : Limits) (leaves : List Leaf) → InProgram limits leaves → One limits leaves
of_program limits leaves ([], (some, each)) = absurd (some refl)
of_program limits leaves (model ∷ models, (some, (front, back, e, is, each))) = (model, front, back, e, is, (models, each))

processes_of : (limits : Limits) (leaves : List Leaf) → One limits leaves → Processes limits leaves
processes_of limits leaves (model, front, back, e, is, (models, each)) = (model ∷ models, (front, back, e, is, each))

none_left : (here back : List Leaf) → (here ≡ [] → ⊥) → StopsBefore IsAnything back → SameFirst here back → ⊥
none_left [] back some stops same = some refl
none_left (l ∷ here) [] some stops same = same
none_left (l ∷ here) (m ∷ back) some stops same = stops tt

of_processes : (here : List Leaf) → (here ≡ [] → ⊥) → (limits : Limits) (whole back : List Leaf) → Processes limits whole → StopsBefore IsAnything back → SameFirst here (whole ++ back) → One limits whole
of_processes here some limits whole back ([], none) stops same = absurd (none_left here back some stops (subst (λ (ls : List Leaf). SameFirst here (ls ++ back)) none same))
of_processes here some limits whole back (model ∷ models, (front, rest, e, is, each)) stops same = (model, front, rest, e, is, (models, each))

refused_one : {cause : Cause} {here after : List Leaf} → Refuses (InProcess 0) ContinuesNothing cause here after → Refuses One IsAnything cause here after
refused_one r = then_first Model ContinuesNothing Processes IsAnything (apart_nothing Processes IsAnything) [] (λ limits. ([], refl)) r

read_one : (model : ProcessModel) {s t : State} → Covers (IsModel both_limits model 0) s t → Leads One IsAnything Processes IsAnything s.leaves t.leaves
read_one model c = leads_alone Model Processes IsAnything (model_once no_limits 0) (λ limits x leaves is. model_within limits x 0 leaves is) (λ limits x leaves is. model_unlimited limits x 0 0 leaves is) model c

-- where a program was begun, up to a process
abbrev pub LeadsProgram : (before after : List Leaf) → Type 0
LeadsProgram before after = Leads InProgram IsAnything Processes IsAnything before after

pub program_first : {cause : Cause} {here after : List Leaf} → Refuses (InProcess 0) ContinuesNothing cause here after → Refuses InProgram IsAnything cause here after
program_first {here = here} r = refuses_where One InProgram IsAnything IsAnything program_of (λ back stops. stops) here (λ limits whole back is stops same. of_program limits whole is) (refused_one r)

pub program_begun : (model : ProcessModel) {s t : State} → Covers (IsModel both_limits model 0) s t → LeadsProgram s.leaves t.leaves
program_begun model {s} {t} c = leads_where One InProgram IsAnything IsAnything program_of (λ back stops. stops) s.leaves (λ limits whole back is stops same. of_program limits whole is) (read_one model c)

pub program_next : {cause : Cause} {before here after : List Leaf} → LeadsProgram before here → (here ≡ [] → ⊥) → Refuses (InProcess 0) ContinuesNothing cause here after → Refuses InProgram IsAnything cause before after
program_next {here = here} l some r = leads_refuses l (refuses_where One Processes IsAnything IsAnything processes_of (λ back stops. stops) here (λ limits whole back is stops same. of_processes here some limits whole back is stops same) (refused_one r))

pub program_more : (model : ProcessModel) {before : List Leaf} {s t : State} → LeadsProgram before s.leaves → (s.leaves ≡ [] → ⊥) → Covers (IsModel both_limits model 0) s t → LeadsProgram before t.leaves
program_more model {before} {s} {t} l some c = leads_on l (leads_where One Processes IsAnything IsAnything processes_of (λ back stops. stops) s.leaves (λ limits whole back is stops same. of_processes s.leaves some limits whole back is stops same) (read_one model c))

-- A refusal of programs, as one of the text.
next_begins : (limits : Limits) (passed after : List Leaf) → ReachesNext InProgram limits passed after → (after ≢ []) × GoesOn limits passed after
next_begins limits passed [] none = absurd none
next_begins limits passed (l ∷ after) (done, is) = ((λ e. cc), (done, is.0, is.1))

otherwise_of : (cause : Cause) (passed after : List Leaf) → IsAllowed InProgram cause passed after → GoesOnOtherwise cause passed after
otherwise_of Wrong passed after allowed = tt
otherwise_of TooDeep passed after allowed = next_begins no_limits passed after allowed
otherwise_of TooMany passed after allowed = next_begins nesting_limit passed after allowed

none_goes_on : (limits : Limits) (passed after : List Leaf) → ((leaves front back : List Leaf) → Agrees passed after leaves → leaves ≡ front ++ back → InProgram limits front → StopsBefore IsAnything back → ⊥) → GoesOn limits passed after → ⊥
none_goes_on limits passed [] excluded (processes, is) = excluded passed passed [] refl (sym (append-nil passed)) (processes, is) tt
none_goes_on limits passed (l ∷ after) excluded (rest, processes, is) =
    excluded ((passed ++ l ∷ []) ++ rest) ((passed ++ l ∷ []) ++ rest) [] (rest, append_assoc passed (l ∷ []) rest) (sym (append-nil ((passed ++ l ∷ []) ++ rest))) (processes, is) tt

pub is_refused : (leaves : List Leaf) (end at : Span) (cause : Cause) {here stopped : List Leaf} → here ≡ leaves → at ≡ place_of stopped end → Refuses InProgram IsAnything cause here stopped → IsRefused leaves end cause at
is_refused leaves end at cause {here} {stopped} whole place r = record {
  passed = r.passed;
  after = stopped;
  split = sym whole ∙ r.split;
  place = place;
  begins = (r.viable.0, r.viable.1.0, r.viable.1.1);
  otherwise = otherwise_of cause r.passed stopped r.allowed;
  stops = none_goes_on (refused_within cause) r.passed stopped r.excluded;
}

pub answered : (leaves : List Leaf) (end at : Span) (why : Refusal) (s t : State) → s.leaves ≡ leaves → at ≡ place_of t.leaves end → RefusedBy InProgram IsAnything s t why → IsAnswerOf leaves end (answer_of why at)
answered leaves end at Syntax s t whole place r = inr (Wrong, at, refl, is_refused leaves end at Wrong whole place (r (λ e. cc)))
answered leaves end at Nesting s t whole place r = inr (TooDeep, at, refl, is_refused leaves end at TooDeep whole place (r (λ e. cc)))
answered leaves end at Operators s t whole place r = inr (TooMany, at, refl, is_refused leaves end at TooMany whole place (r (λ e. cc)))
answered leaves end at OutOfMemory s t whole place r = inl refl

-- A text with a tree is not refused.
begins_within : (limits : Limits) (leaves : List Leaf) → Begins both_limits leaves → Begins limits leaves
begins_within limits leaves (rest, processes, is) = (rest, processes, program_within limits processes (leaves ++ rest) is)

pub not_refused : (leaves : List Leaf) (end at : Span) (cause : Cause) (processes : List ProcessModel) → IsProgram both_limits processes leaves → IsRefused leaves end cause at → ⊥
not_refused leaves end at cause processes is r = go r.after r.split r.stops
  where
    go : (after : List Leaf) → leaves ≡ r.passed ++ after → (GoesOn (refused_within cause) r.passed after → ⊥) → ⊥
    go [] split stops = stops (processes, program_within (refused_within cause) processes r.passed (subst (λ (ls : List Leaf). IsProgram both_limits processes ls) (split ∙ append-nil r.passed) is))
    go (l ∷ after) split stops = stops (begins_within (refused_within cause) (r.passed ++ l ∷ [])
        (after, processes, subst (λ (ls : List Leaf). IsProgram both_limits processes ls) (split ∙ sym (append_assoc r.passed (l ∷ []) after)) is))

-- Only one token of a text is refused, for one cause.
fewer_limits : (processes : List ProcessModel) (leaves : List Leaf) → IsProgram nesting_limit processes leaves → IsProgram no_limits processes leaves
fewer_limits processes leaves is = program_unlimited nesting_limit processes leaves is

goes_on_free : (passed after : List Leaf) → GoesOn nesting_limit passed after → GoesOn no_limits passed after
goes_on_free passed [] (processes, is) = (processes, fewer_limits processes passed is)
goes_on_free passed (l ∷ after) (rest, processes, is) = (rest, processes, fewer_limits processes ((passed ++ l ∷ []) ++ rest) is)

cause_same : (c d : Cause) (passed after : List Leaf) → GoesOnOtherwise c passed after → GoesOnOtherwise d passed after → (GoesOn (refused_within c) passed after → ⊥) → (GoesOn (refused_within d) passed after → ⊥) → c ≡ d
cause_same Wrong TooDeep passed after a b f g = absurd (f b.1)
cause_same Wrong TooMany passed after a b f g = absurd (f (goes_on_free passed after b.1))
cause_same TooDeep Wrong passed after a b f g = absurd (g a.1)
cause_same TooDeep TooMany passed after a b f g = absurd (f b.1)
cause_same TooMany Wrong passed after a b f g = absurd (g (goes_on_free passed after a.1))
cause_same TooMany TooDeep passed after a b f g = absurd (g a.1)
cause_same _ _ passed after a b f g = refl

-- one of two beginnings of the same leaves is the longer one
abbrev Longer : (p a q b : List Leaf) → Type 0
Longer p a q b = ((p ≡ q) × (a ≡ b)) ⊎ (((l : Leaf) × (more : List Leaf) × (rest : List Leaf) × (q ≡ p ++ l ∷ more) × (a ≡ l ∷ rest))
    ⊎ ((l : Leaf) × (more : List Leaf) × (rest : List Leaf) × (p ≡ q ++ l ∷ more) × (b ≡ l ∷ rest)))

longer : (p a q b : List Leaf) → p ++ a ≡ q ++ b → Longer p a q b
longer [] a [] b e = inl (refl, e)
longer [] a (m ∷ q) b e = inr (inl (m, q, q ++ b, refl, e))
longer (l ∷ p) a [] b e = inr (inr (l, p, p ++ a, refl, sym e))
longer (l ∷ p) a (m ∷ q) b e =
    let first : l ≡ m = cc in
    let rest : p ++ a ≡ q ++ b = cc in
    go first (longer p a q b rest)
  where
    go : l ≡ m → Longer p a q b → Longer (l ∷ p) a (m ∷ q) b
    go first (inl (same, other)) = inl (cc (first, same), other)
    go first (inr (inl (k, more, rest, f, g))) = inr (inl (k, more, rest, cc (first, f), g))
    go first (inr (inr (k, more, rest, f, g))) = inr (inr (k, more, rest, cc (first, f), g))

-- what was passed further on went on with the token
went_on : (limits : Limits) (p a q : List Leaf) (l : Leaf) (more rest : List Leaf) → q ≡ p ++ l ∷ more → a ≡ l ∷ rest → Begins both_limits q → GoesOn limits p a
went_on limits p a q l more rest e f (done, processes, is) = subst (λ (ls : List Leaf). GoesOn limits p ls) (sym f) (
  more ++ done,
  processes,
  program_within limits processes ((p ++ l ∷ []) ++ (more ++ done))
      (subst (λ (ls : List Leaf). IsProgram both_limits processes ls) (ap (λ ls. ls ++ done) e ∙ append_assoc p (l ∷ more) done ∙ sym (append_assoc p (l ∷ []) (more ++ done))) is),
)

pub one_refused : (leaves : List Leaf) (end : Span) (c d : Cause) (at place : Span) → IsRefused leaves end c at → IsRefused leaves end d place → (c ≡ d) × (at ≡ place)
one_refused leaves end c d at place r k = go (longer r.passed r.after k.passed k.after (sym r.split ∙ k.split))
  where
    go : Longer r.passed r.after k.passed k.after → (c ≡ d) × (at ≡ place)
    go (inl (e, f)) = (
      cause_same c d k.passed k.after
          (subst (λ (ls : List Leaf). GoesOnOtherwise c ls k.after) e (subst (λ (ls : List Leaf). GoesOnOtherwise c r.passed ls) f r.otherwise))
          k.otherwise
          (subst (λ (ls : List Leaf). GoesOn (refused_within c) ls k.after → ⊥) e (subst (λ (ls : List Leaf). GoesOn (refused_within c) r.passed ls → ⊥) f r.stops))
          k.stops,
      r.place ∙ ap (λ ls. place_of ls end) f ∙ sym k.place,
    )
    go (inr (inl (l, more, rest, e, f))) = absurd (r.stops (went_on (refused_within c) r.passed r.after k.passed l more rest e f k.begins))
    go (inr (inr (l, more, rest, e, f))) = absurd (k.stops (went_on (refused_within d) k.passed k.after r.passed l more rest e f r.begins))

-- the answers of the parser
pub no_other : (leaves : List Leaf) (end : Span) (answer : ParseAnswer) → IsAnswerOf leaves end answer → (cause : Cause) (at : Span) → IsRefused leaves end cause at → (answer ≡ NoMemory) ⊎ (answer ≡ answer_for cause at)
no_other leaves end answer (inl e) cause at r = inl e
no_other leaves end answer (inr (c, place, e, k)) cause at r =
    let same = one_refused leaves end c cause place at k r in
    inr (e ∙ ap (λ (d : Cause). answer_for d place) same.0 ∙ ap (λ (p : Span). answer_for cause p) same.1)

pub given_tree : (leaves : List Leaf) (end : Span) (answer : ParseAnswer) → IsAnswerOf leaves end answer → (processes : List ProcessModel) → IsProgram both_limits processes leaves → answer ≡ NoMemory
given_tree leaves end answer (inl e) processes is = e
given_tree leaves end answer (inr (c, place, e, k)) processes is = absurd (not_refused leaves end place c processes is k)

-- leaves have one answer at most, and none where they have a tree
pub one_answer : (leaves : List Leaf) (end : Span) (a b : ParseAnswer) → IsFirstRefusal leaves end a → IsFirstRefusal leaves end b → a ≡ b
one_answer leaves end a b (c, at, e, r) (d, place, f, k) =
    let same = one_refused leaves end c d at place r k in
    e ∙ ap (λ (cause : Cause). answer_for cause at) same.0 ∙ ap (λ (p : Span). answer_for d p) same.1 ∙ sym f

pub no_answer : (leaves : List Leaf) (end : Span) (processes : List ProcessModel) (a : ParseAnswer) → HasTree leaves processes → IsFirstRefusal leaves end a → ⊥
no_answer leaves end processes a has (c, at, e, r) = not_refused leaves end at c processes has r
