-- What is refused of a whole process, from its parts.
use Rattle.sig_parse.proofs.Common.{◌≡◌, ◌++◌, ◌≤◌, ◌<◌, ℕ, suc, List, [], ◌∷◌, codes, inl, inr, refl, sym, ap, ◌∙◌, subst, arith, append-nil, Span, Name, Declared, Placement, Named, Computed, Equations, Defines, ProcessModel, Modelled, ProcessModels, no_model, more_models, Leaf, leaf, name_leaf, word, mark, Limits, both_limits, nesting_limit, no_limits, IsBody, AreParams, ArePragmas, StartsWith, BeginsBody, BeginsProcess, StopsBefore, ContinuesNothing, ContinuesOptional, ContinuesBody, no_place, different, body_unlimited, body_within, body_begins, append_to, starts_apart, named_alone, interface_once, IsTitle, HasSides, AreBehindWhere, Refusal, Nesting, State, Covers, Cause, TooDeep, cause_of, Refuses, RefusedBy, Settles, InLeaf, InBody, InTitle, InParams, InInterface, InPragmas, InProcess, InDeclared, IsWherePart, InWhere}
use Rattle.sig_parse.proofs.PartRefusals.{SameFirst, agrees_first}
use Rattle.sig_parse.proofs.RefusedConstants.{some_name, some_leaf}
use Rattle.sig_parse.proofs.PassedLanguages.{Leads, Then, Apart, leads_refuses, leads_on, refuses_where, apart_nothing, then_first, leads_settled, leads_alone}
use Rattle.sig_parse.proofs.RefusedDeclarations.{Always}
use Rattle.sig_parse.proofs.AheadLemmas.{leaf_is}
use Rattle.sig_parse.proofs.RefusedProcesses.{where_no_body, semicolon_no_body, pragmas_no_body, title_once, locals_within, locals_unlimited, chained, chained_locals, process_from, declared_process}

module _ (depth : ℕ) where
  -- the parts of a process, each with those behind it
  abbrev End : Limits → List Leaf → Type 0
  End limits leaves = InLeaf (mark (codes ";")) limits leaves

  abbrev Body_of : Limits → Equations → List Leaf → Type 0
  Body_of limits body leaves = IsBody limits body depth leaves

  abbrev FromWhere : Limits → List Leaf → Type 0
  FromWhere limits leaves = Then (IsWherePart depth) End limits leaves

  abbrev FromBody : Limits → List Leaf → Type 0
  FromBody limits leaves = Then Body_of FromWhere limits leaves

  abbrev FromPragmas : Limits → List Leaf → Type 0
  FromPragmas limits leaves = Then (Always ArePragmas) FromBody limits leaves

  abbrev FromInterface : Limits → List Leaf → Type 0
  FromInterface limits leaves = Then (Always HasSides) FromPragmas limits leaves

  abbrev FromParams : Limits → List Leaf → Type 0
  FromParams limits leaves = Then (Always AreParams) FromInterface limits leaves

  abbrev FromTitle : Limits → List Leaf → Type 0
  FromTitle limits leaves = Then (Always IsTitle) FromParams limits leaves

  process_of : (limits : Limits) (leaves : List Leaf) → FromTitle limits leaves → InProcess depth limits leaves
  process_of limits leaves (n, l1, r1, e1, (begun, equals, f1), (params, l2, r2, e2, are_params, (sides, l3, r3, e3, is_interface, (pragmas, l4, r4, e4, are_pragmas, (body, l5, r5, e5, is_body, (declared, l6, r6, e6, is_where, (ended, f7))))))) = (
    Modelled (record { name = n; params = params; inputs = sides.0; outputs = sides.1 }) pragmas body declared.0 declared.1,
    (
      begun,
      equals,
      ended,
      l2,
      l3,
      l4,
      l5,
      l6,
      e1 ∙ ap (λ ls. ls ++ r1) f1 ∙ ap (λ ls. leaf (word (codes "process")) begun ∷ name_leaf n ∷ leaf (mark (codes "=")) equals ∷ ls)
          (e2 ∙ ap (λ ls. l2 ++ ls) (e3 ∙ ap (λ ls. l3 ++ ls) (e4 ∙ ap (λ ls. l4 ++ ls) (e5 ∙ ap (λ ls. l5 ++ ls) (e6 ∙ ap (λ ls. l6 ++ ls) f7))))),
      are_params,
      is_interface,
      are_pragmas,
      is_body,
      is_where,
    ),
  )

  of_process : (limits : Limits) (leaves : List Leaf) → InProcess depth limits leaves → FromTitle limits leaves
  of_process limits leaves (Modelled heading pragmas body locals inner, (begun, equals, ended, l2, l3, l4, l5, l6, e, are_params, is_interface, are_pragmas, is_body, is_where)) =
      let last = leaf (mark (codes ";")) ended ∷ [] in (
        heading.name,
        leaf (word (codes "process")) begun ∷ name_leaf heading.name ∷ leaf (mark (codes "=")) equals ∷ [],
        l2 ++ (l3 ++ (l4 ++ (l5 ++ (l6 ++ last)))),
        e,
        (begun, equals, refl),
        (
          heading.params,
          l2,
          l3 ++ (l4 ++ (l5 ++ (l6 ++ last))),
          refl,
          are_params,
          (
            (heading.inputs, heading.outputs),
            l3,
            l4 ++ (l5 ++ (l6 ++ last)),
            refl,
            is_interface,
            (pragmas, l4, l5 ++ (l6 ++ last), refl, are_pragmas, (body, l5, l6 ++ last, refl, is_body, ((locals, inner), l6, last, refl, is_where, (ended, refl)))),
          ),
        ),
      )

  as_process : {cause : Cause} {here after : List Leaf} → Refuses FromTitle ContinuesNothing cause here after → Refuses (InProcess depth) ContinuesNothing cause here after
  as_process {here = here} r = refuses_where FromTitle (InProcess depth) ContinuesNothing ContinuesNothing process_of (λ back stops. stops) here (λ limits whole back is stops same. of_process limits whole is) r

  -- no part is continued by what stands behind it
  where_apart : Apart (ContinuesOptional (word (codes "where"))) End ContinuesNothing
  where_apart limits leaves back (at, e) stops = subst (λ (ls : List Leaf). StopsBefore (ContinuesOptional (word (codes "where"))) (ls ++ back)) (sym e) no_where
    where
      no_where : mark (codes ";") ≡ word (codes "where") → ⊥
      no_where e = cc

  body_apart : Apart ContinuesBody FromWhere ContinuesNothing
  body_apart limits leaves back (declared, front, rest, e, inl (none, no_inner, f), (ended, g)) stops =
      subst (λ (ls : List Leaf). StopsBefore ContinuesBody (ls ++ back)) (sym (e ∙ ap (λ ls. ls ++ rest) f ∙ g)) semicolon_no_body
  body_apart limits leaves back (declared, front, rest, e, inr (opened, ended, inside, f, are), end) stops =
      subst (λ (ls : List Leaf). StopsBefore ContinuesBody (ls ++ back)) (sym (e ∙ ap (λ ls. ls ++ rest) f)) where_no_body

  pragmas_apart : Apart (ContinuesOptional (word (codes "pragmas"))) FromBody ContinuesNothing
  pragmas_apart limits leaves back (body, front, rest, e, is, behind) stops =
      subst (λ (ls : List Leaf). StopsBefore (ContinuesOptional (word (codes "pragmas"))) ls) (sym (append_to leaves front rest back e))
      (starts_apart BeginsBody (ContinuesOptional (word (codes "pragmas"))) front (rest ++ back) pragmas_no_body (body_begins limits body depth front is))

  params_apart : Apart (ContinuesOptional (mark (codes "{"))) FromInterface ContinuesNothing
  params_apart limits leaves back (sides, front, rest, e, (opened, closed, inside, f, are), behind) stops =
      subst (λ (ls : List Leaf). StopsBefore (ContinuesOptional (mark (codes "{"))) (ls ++ back)) (sym (e ∙ ap (λ ls. ls ++ rest) f)) (different (mark (codes "(")) (mark (codes "{")) refl refl)

  -- the shortest of what may stand behind each part
  abbrev end_leaves : List Leaf
  end_leaves = leaf (mark (codes ";")) no_place ∷ []

  some_end : (limits : Limits) → End limits end_leaves
  some_end limits = (no_place, refl)

  some_where : (limits : Limits) → FromWhere limits end_leaves
  some_where limits = (([], no_model), [], end_leaves, refl, inl (refl, refl, refl), some_end limits)

  abbrev body_leaves : List Leaf
  body_leaves = some_leaf ∷ leaf (mark (codes ":=")) no_place ∷ some_leaf ∷ []

  some_body : (limits : Limits) → IsBody limits (Defines (some_name ∷ []) (Computed (Named some_name))) depth body_leaves
  some_body limits = (no_place, some_leaf ∷ [], some_leaf ∷ [], refl, inl (some_name, refl, refl), named_alone limits depth some_name, λ kept. omega arith)

  from_body : (limits : Limits) → FromBody limits (body_leaves ++ end_leaves)
  from_body limits = (Defines (some_name ∷ []) (Computed (Named some_name)), body_leaves, end_leaves, refl, some_body limits, some_where limits)

  from_pragmas : (limits : Limits) → FromPragmas limits (body_leaves ++ end_leaves)
  from_pragmas limits = ([], [], body_leaves ++ end_leaves, refl, inl (refl, refl), from_body limits)

  abbrev interface_leaves : List Leaf
  interface_leaves = leaf (mark (codes "(")) no_place ∷ leaf (mark (codes "?")) no_place ∷ leaf (mark (codes "!")) no_place ∷ leaf (mark (codes ")")) no_place ∷ []

  from_interface : (limits : Limits) → FromInterface limits (interface_leaves ++ (body_leaves ++ end_leaves))
  from_interface limits = (
    ([], []),
    interface_leaves,
    body_leaves ++ end_leaves,
    refl,
    (no_place, no_place, leaf (mark (codes "?")) no_place ∷ leaf (mark (codes "!")) no_place ∷ [], refl, (no_place, no_place, [], [], refl, refl, refl)),
    from_pragmas limits,
  )

  from_params : (limits : Limits) → FromParams limits (interface_leaves ++ (body_leaves ++ end_leaves))
  from_params limits = ([], [], interface_leaves ++ (body_leaves ++ end_leaves), refl, inl (refl, refl), from_interface limits)

  -- behind the word
  abbrev pub rest_leaves : List Leaf
  rest_leaves = some_leaf ∷ leaf (mark (codes "=")) no_place ∷ (interface_leaves ++ (body_leaves ++ end_leaves))

  pub some_process : (limits : Limits) (at : Span) → InProcess depth limits (leaf (word (codes "process")) at ∷ rest_leaves)
  some_process limits at = process_of limits (leaf (word (codes "process")) at ∷ rest_leaves)
      (some_name, leaf (word (codes "process")) at ∷ some_leaf ∷ leaf (mark (codes "=")) no_place ∷ [], interface_leaves ++ (body_leaves ++ end_leaves), refl, (at, no_place, refl), from_params limits)

  where_within : (limits : Limits) (declared : List Declared × ProcessModels) (leaves : List Leaf) → IsWherePart depth both_limits declared leaves → IsWherePart depth limits declared leaves
  where_within limits declared leaves (inl none) = inl none
  where_within limits declared leaves (inr (opened, ended, inside, e, are)) = inr (opened, ended, inside, e, locals_within limits declared.1 depth declared.0 inside are)

  where_unlimited : (limits : Limits) (declared : List Declared × ProcessModels) (leaves : List Leaf) → IsWherePart depth limits declared leaves → IsWherePart depth no_limits declared leaves
  where_unlimited limits declared leaves (inl none) = inl none
  where_unlimited limits declared leaves (inr (opened, ended, inside, e, are)) = inr (opened, ended, inside, e, locals_unlimited limits declared.1 depth declared.0 inside are)

  no_models : (models : List ProcessModel) → models ≡ [] → chained models ≡ no_model
  no_models [] e = refl
  no_models (m ∷ models) e = cc

  where_covers : (models : List ProcessModel) (groups : List Declared) {s t : State} → Covers (AreBehindWhere depth models groups) s t → Covers (IsWherePart depth both_limits (groups, chained models)) s t
  where_covers models groups c = record { front = c.front; split = c.split; is = go c.is } where
    go : AreBehindWhere depth models groups c.front → IsWherePart depth both_limits (groups, chained models) c.front
    go (inl (no_groups, none, e)) = inl (no_groups, no_models models none, e)
    go (inr (opened, ended, inside, e, are)) = inr (opened, ended, inside, e, chained_locals depth models groups inside are)

  -- each part is refused, behind those that were read
  pub process_title : {cause : Cause} {here after : List Leaf} → Refuses InTitle ContinuesNothing cause here after → Refuses (InProcess depth) ContinuesNothing cause here after
  process_title r = as_process (then_first (Always IsTitle) ContinuesNothing FromParams ContinuesNothing (apart_nothing FromParams ContinuesNothing) _ from_params r)

  module _ (n : Name) {s t : State} (c : Covers (IsTitle n) s t) where
    to_params : Leads FromTitle ContinuesNothing FromParams ContinuesNothing s.leaves t.leaves
    to_params = leads_alone (Always IsTitle) FromParams ContinuesNothing title_once (λ limits x leaves is. is) (λ limits x leaves is. is) n c

    pub process_params : {cause : Cause} {after : List Leaf} → Refuses InParams (ContinuesOptional (mark (codes "{"))) cause t.leaves after → Refuses (InProcess depth) ContinuesNothing cause s.leaves after
    process_params r = as_process (leads_refuses to_params (then_first (Always AreParams) (ContinuesOptional (mark (codes "{"))) FromInterface ContinuesNothing params_apart _ from_interface r))

    module _ (params : List Declared) {u : State} (d : Covers (AreParams params) t u) (dk : Settles InParams (ContinuesOptional (mark (codes "{"))) t.leaves u.leaves) where
      to_interface : Leads FromTitle ContinuesNothing FromInterface ContinuesNothing s.leaves u.leaves
      to_interface = leads_on to_params (leads_settled (Always AreParams) (ContinuesOptional (mark (codes "{"))) FromInterface ContinuesNothing params_apart (λ limits x leaves is. is) (λ limits x leaves is. is) params d dk)

      pub process_interface : {cause : Cause} {after : List Leaf} → Refuses InInterface ContinuesNothing cause u.leaves after → Refuses (InProcess depth) ContinuesNothing cause s.leaves after
      process_interface r = as_process (leads_refuses to_interface (then_first (Always HasSides) ContinuesNothing FromPragmas ContinuesNothing (apart_nothing FromPragmas ContinuesNothing) _ from_pragmas r))

      module _ (inputs outputs : List Declared) {v : State} (i : Covers (HasSides (inputs, outputs)) u v) where
        to_pragmas : Leads FromTitle ContinuesNothing FromPragmas ContinuesNothing s.leaves v.leaves
        to_pragmas = leads_on to_interface (leads_alone (Always HasSides) FromPragmas ContinuesNothing interface_once (λ limits x leaves is. is) (λ limits x leaves is. is) (inputs, outputs) i)

        pub process_pragmas : {cause : Cause} {after : List Leaf} → Refuses InPragmas (ContinuesOptional (word (codes "pragmas"))) cause v.leaves after → Refuses (InProcess depth) ContinuesNothing cause s.leaves after
        process_pragmas r = as_process (leads_refuses to_pragmas (then_first (Always ArePragmas) (ContinuesOptional (word (codes "pragmas"))) FromBody ContinuesNothing pragmas_apart _ from_body r))

        module _ (pragmas : List Placement) {w : State} (p : Covers (ArePragmas pragmas) v w) (pk : Settles InPragmas (ContinuesOptional (word (codes "pragmas"))) v.leaves w.leaves) where
          to_body : Leads FromTitle ContinuesNothing FromBody ContinuesNothing s.leaves w.leaves
          to_body = leads_on to_pragmas (leads_settled (Always ArePragmas) (ContinuesOptional (word (codes "pragmas"))) FromBody ContinuesNothing pragmas_apart (λ limits x leaves is. is) (λ limits x leaves is. is) pragmas p pk)

          pub process_body : {cause : Cause} {after : List Leaf} → Refuses (InBody depth) ContinuesBody cause w.leaves after → Refuses (InProcess depth) ContinuesNothing cause s.leaves after
          process_body r = as_process (leads_refuses to_body (then_first Body_of ContinuesBody FromWhere ContinuesNothing body_apart _ some_where r))

          module _ (body : Equations) {x : State} (b : Covers (IsBody both_limits body depth) w x) (bk : Settles (InBody depth) ContinuesBody w.leaves x.leaves) where
            to_where : Leads FromTitle ContinuesNothing FromWhere ContinuesNothing s.leaves x.leaves
            to_where = leads_on to_body (leads_settled Body_of ContinuesBody FromWhere ContinuesNothing body_apart (λ limits y leaves is. body_within limits y depth leaves is) (λ limits y leaves is. body_unlimited limits y depth depth leaves is) body b bk)

            pub process_where : {cause : Cause} {after : List Leaf} → Refuses (InWhere depth) (ContinuesOptional (word (codes "where"))) cause x.leaves after → Refuses (InProcess depth) ContinuesNothing cause s.leaves after
            process_where r = as_process (leads_refuses to_where (then_first (IsWherePart depth) (ContinuesOptional (word (codes "where"))) End ContinuesNothing where_apart _ some_end r))

            pub process_end : (models : List ProcessModel) (groups : List Declared) {y : State} → Covers (AreBehindWhere depth models groups) x y → Settles (InWhere depth) (ContinuesOptional (word (codes "where"))) x.leaves y.leaves
                → {cause : Cause} {after : List Leaf} → Refuses (InLeaf (mark (codes ";"))) ContinuesNothing cause y.leaves after → Refuses (InProcess depth) ContinuesNothing cause s.leaves after
            process_end models groups e k r = as_process (leads_refuses to_where (leads_refuses
                (leads_settled (IsWherePart depth) (ContinuesOptional (word (codes "where"))) End ContinuesNothing where_apart where_within where_unlimited (groups, chained models) (where_covers models groups e) k) r))

-- a process that stands too deep
pub declared_too_deep : (depth : ℕ) → 64 ≤ depth → (here : List Leaf) → StartsWith BeginsProcess here → Refuses (InDeclared depth) ContinuesNothing TooDeep here here
declared_too_deep depth deep [] next = absurd next
declared_too_deep depth deep (l ∷ more) next = record {
  passed = [];
  split = refl;
  viable = (leaf (word (codes "end")) no_place ∷ [], (([], no_model), (no_place, [], refl, refl)));
  allowed = (
    rest_leaves (suc depth) ++ leaf (word (codes "end")) no_place ∷ [],
    let m = some_process (suc depth) no_limits l.at in
        subst (λ (k : Leaf). InDeclared depth no_limits (k ∷ (rest_leaves (suc depth) ++ leaf (word (codes "end")) no_place ∷ []))) (sym (leaf_is l (word (codes "process")) next)) (
          ([], more_models m.0 no_model),
          (
            no_place,
            leaf (word (codes "process")) l.at ∷ rest_leaves (suc depth),
            refl,
            ([], [], [], leaf (word (codes "process")) l.at ∷ rest_leaves (suc depth), [], refl, sym (append-nil (leaf (word (codes "process")) l.at ∷ rest_leaves (suc depth))), refl, ((λ kept. cc), m.1), refl),
          ),
        ),
  );
  excluded = λ leaves front back agrees e is stops.
      let same : SameFirst (l ∷ more) (front ++ back) = subst (λ (ls : List Leaf). SameFirst (l ∷ more) ls) e (agrees_first [] (l ∷ more) leaves agrees) in
      let first = process_from depth (l ∷ more) next nesting_limit front back is same in
      let shallow : depth < 64 = first.4.0 refl in
      omega arith;
}

pub inner_too_deep : (depth : ℕ) (why : Refusal) (s : State) → (why ≡ Nesting) × (64 ≤ depth) → StartsWith BeginsProcess s.leaves → RefusedBy (InDeclared depth) ContinuesNothing s s why
inner_too_deep depth why s deep next = λ text. subst (λ (w : Refusal). Refuses (InDeclared depth) ContinuesNothing (cause_of w) s.leaves s.leaves) (sym deep.0) (declared_too_deep depth deep.1 s.leaves next)

pub inner_refused : (depth inner : ℕ) → (depth < 64) × (inner ≡ suc depth) → {cause : Cause} {here after : List Leaf} → StartsWith BeginsProcess here → Refuses (InProcess inner) ContinuesNothing cause here after
    → Refuses (InDeclared depth) ContinuesNothing cause here after
inner_refused depth inner deeper {cause} {here} {after} next r = declared_process depth deeper.0 next (subst (λ (d : ℕ). Refuses (InProcess d) ContinuesNothing cause here after) deeper.1 r)
