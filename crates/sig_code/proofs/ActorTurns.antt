-- What an actor does at a place of the order and at the end, link by link.
use Rattle.sig_code.proofs.Common.{◌≡◌, ℕ, ◌+◌, ◌*◌, ◌<◌, Bool, true, false, List, [], ◌∷◌, ◌++◌, map, length, Option, None, Some, slice_get, get_or, take, arith, refl, sym, ap, ◌∙◌, if◌then◌else◌, ◌==◌, cons_option, filter_map, option_map, get_or-map, length-map, slice_get-map, OpId, SigId, doing, ending, receiving, route_if, routes_of, sending, Route, IsRefOf, test, Node, Ref, Instruction, always, at_end, at_number, is_signal, links_of, links_to, numbered, op_id, over_order, report_links, reports_of, under, unguarded, Guard, Operation, operation_in, operations_in, numbers_of, StepKind, Do, Send, Receive, Report, Collect, Commit, Op, LinkInfo}
use Rattle.sig_code.proofs.Numbered.{joined_more}

map_cons : {Y W : Type 0} (f : Y → W) (o : Option Y) (ys : List Y) → map f (cons_option o ys) ≡ cons_option (option_map f o) (map f ys)
map_cons f None ys = refl
map_cons f (Some y) ys = refl

-- elements that give the same
same_chosen : {X Y Z W : Type 0} (f : Y → W) (h : X → Option Y) (g : Z → W) (k : X → Option Z) → ((x : X) → option_map f (h x) ≡ option_map g (k x)) → (xs : List X)
    → map f (filter_map h xs) ≡ map g (filter_map k xs)
same_chosen f h g k same [] = refl
same_chosen f h g k same (x ∷ xs) =
    map_cons f (h x) (filter_map h xs) ∙ (λ j. cons_option (same x j) (same_chosen f h g k same xs j)) ∙ sym (map_cons g (k x) (filter_map k xs))

abbrev after : {Y Z : Type 0} → (Y → Option Z) → Option Y → Option Z
after r None = None
after r (Some y) = r y

chosen_after : {Y Z : Type 0} (r : Y → Option Z) (o : Option Y) (ys : List Y) → filter_map r (cons_option o ys) ≡ cons_option (after r o) (filter_map r ys)
chosen_after r None ys = refl
chosen_after r (Some y) ys = refl

chosen_twice : {X Y Z : Type 0} (h : X → Option Y) (r : Y → Option Z) (xs : List X) → filter_map r (filter_map h xs) ≡ filter_map (λ x. after r (h x)) xs
chosen_twice h r [] = refl
chosen_twice h r (x ∷ xs) = chosen_after r (h x) (filter_map h xs) ∙ ap (cons_option (after r (h x))) (chosen_twice h r xs)

by_test : {Y Z W : Type 0} (f : Y → W) (g : Z → W) (b : Bool) (y : Y) (z : Z) → f y ≡ g z
    → option_map f (if b then Some y else None) ≡ option_map g (if b then Some z else None)
by_test f g true y z same = ap Some same
by_test f g false y z same = refl

none_carried : (links : List (ℕ × LinkInfo)) → filter_map (route_if None) links ≡ []
none_carried [] = refl
none_carried (link ∷ links) = none_carried links

module _ (nodes : List Node) (op : Op) (pos : ℕ) where
  pub sends_are : (links : List LinkInfo) (writes : Option SigId)
      → map (λ route. doing nodes op.guard pos (sending route)) (routes_of links writes) ≡ map (λ link. under (operation_in nodes op) (Send link) pos) (links_of links writes)
  sends_are links None = ap (map (λ route. doing nodes op.guard pos (sending route))) (none_carried (numbered links))
  sends_are links (Some x) =
      same_chosen (λ (route : Route). doing nodes op.guard pos (sending route)) (route_if (Some x)) (λ (link : ℕ). under (operation_in nodes op) (Send link) pos)
      (λ (link : ℕ × LinkInfo). if is_signal link.1.signal (Some x) then Some link.0 else None)
      (λ link. by_test (λ (route : Route). doing nodes op.guard pos (sending route)) (λ (n : ℕ). under (operation_in nodes op) (Send n) pos) (is_signal link.1.signal (Some x))
      (record { link = link.0; reader = link.1.reader }) link.0 refl)
      (numbered links)

  received : (actor : ℕ) (b : Bool) (number : ℕ) (link : LinkInfo)
      → option_map (doing nodes op.guard pos) (after (receiving actor) (if b then Some (let r : Route = record { link = number; reader = link.reader } in r) else None))
      ≡ option_map (λ (n : ℕ). under (operation_in nodes op) (Receive n) pos) (if b then (if link.reader == actor then Some number else None) else None)
  received actor true number link =
      by_test (doing nodes op.guard pos) (λ (n : ℕ). under (operation_in nodes op) (Receive n) pos) (link.reader == actor) (Receive number) number refl
  received actor false number link = refl

  pub receives_are : (links : List LinkInfo) (writes : Option SigId) (actor : ℕ)
      → map (doing nodes op.guard pos) (filter_map (receiving actor) (routes_of links writes)) ≡ map (λ link. under (operation_in nodes op) (Receive link) pos) (links_to links writes actor)
  receives_are links None actor = ap (λ routes. map (doing nodes op.guard pos) (filter_map (receiving actor) routes)) (none_carried (numbered links))
  receives_are links (Some x) actor =
      ap (map (doing nodes op.guard pos)) (chosen_twice (route_if (Some x)) (receiving actor) (numbered links))
      ∙ same_chosen (doing nodes op.guard pos) (λ (link : ℕ × LinkInfo). after (receiving actor) (route_if (Some x) link)) (λ (link : ℕ). under (operation_in nodes op) (Receive link) pos)
      (λ (link : ℕ × LinkInfo). if is_signal link.1.signal (Some x) then (if link.1.reader == actor then Some link.0 else None) else None)
      (λ link. received actor (is_signal link.1.signal (Some x)) link.0 link.1)
      (numbered links)

-- at the place j of the order
module _ (nodes : List Node) (ops : List Op) (links : List LinkInfo) (actor j number : ℕ) (op : Op) (is : slice_get ops number ≡ Some op) where
  stands : slice_get (operations_in nodes ops) number ≡ Some (operation_in nodes op)
  stands = slice_get-map (operation_in nodes) ops number ∙ ap (option_map (operation_in nodes)) is

  abbrev Here : List Instruction
  Here = at_number (operations_in nodes ops) links actor j number (slice_get (operations_in nodes ops) number)

  chosen : (b : Bool) → (op.actor == actor) ≡ b
      → (if b then under (operation_in nodes op) (Do (op_id number)) (2 * j) ∷ map (λ link. under (operation_in nodes op) (Send link) (2 * j + 1)) (links_of links op.writes)
      else map (λ link. under (operation_in nodes op) (Receive link) (2 * j + 1)) (links_to links op.writes actor)) ≡ Here
  chosen b test =
      sym (ap (at_number (operations_in nodes ops) links actor j number) stands
      ∙ ap (λ (b : Bool). if b then under (operation_in nodes op) (Do (op_id number)) (2 * j) ∷ map (λ link. under (operation_in nodes op) (Send link) (2 * j + 1)) (links_of links op.writes)
      else map (λ link. under (operation_in nodes op) (Receive link) (2 * j + 1)) (links_to links op.writes actor)) test)

  pub own_is : (op.actor == actor) ≡ true
      → (doing nodes op.guard (2 * j) (Do (op_id number)) ∷ []) ++ map (λ route. doing nodes op.guard (2 * j + 1) (sending route)) (routes_of links op.writes) ≡ Here
  own_is test =
      ap (λ (sends : List Instruction). (doing nodes op.guard (2 * j) (Do (op_id number)) ∷ []) ++ sends) (sends_are nodes op (2 * j + 1) links op.writes) ∙ chosen true test

  pub other_is : (op.actor == actor) ≡ false → map (doing nodes op.guard (2 * j + 1)) (filter_map (receiving actor) (routes_of links op.writes)) ≡ Here
  other_is test = receives_are nodes op (2 * j + 1) links op.writes actor ∙ chosen false test

-- the routes of what an operation writes
pub routes_at : (ops : List Op) (links : List LinkInfo) (routes : List (List Route)) (number : ℕ) (r : Op) (e : List Route) → number < length ops
    → routes ≡ map (λ op. routes_of links op.writes) ops → get_or routes number e ≡ routes_of links (get_or ops number r).writes
routes_at ops links routes number r e lt routed =
    ap (λ (rs : List (List Route)). get_or rs number e) routed ∙ get_or-map (λ (op : Op). routes_of links op.writes) ops number r e lt

-- one more place of the order
pub over_more : (operations : List Operation) (links : List LinkInfo) (actor : ℕ) (order : List OpId) (i : ℕ) (d : OpId) → i < length order
    → over_order operations (take i (numbers_of order)) links actor ++ at_number operations links actor i (get_or order i d).0 (slice_get operations (get_or order i d).0)
    ≡ over_order operations (take (i + 1) (numbers_of order)) links actor
over_more operations links actor order i d lt =
    let at : get_or (numbers_of order) i d.0 ≡ (get_or order i d).0 = get_or-map (λ (op : OpId). op.0) order i d d.0 lt in
    let f : ℕ × ℕ → List Instruction = λ place. at_number operations links actor place.0 place.1 (slice_get operations place.1) in
    ap (λ (n : ℕ). over_order operations (take i (numbers_of order)) links actor ++ f (i, n)) (sym at)
    ∙ joined_more f (numbers_of order) i d.0 (omega (arith, lt, length-map order (λ (op : OpId). op.0)))

-- at the end
module _ (nodes : List Node) (guard : Ref) (links : List LinkInfo) (clusters n actor : ℕ) (is : IsRefOf nodes always guard) where
  function : test nodes guard ≡ always
  function = λ j truths. is.function truths j

  unguarded_is : (kind : StepKind) (position : ℕ) → doing nodes guard position kind ≡ unguarded kind position
  unguarded_is kind position = ap (λ (g : Guard). let i : Instruction = record { kind = kind; position = position; guard = g } in i) function

  abbrev Ends : List Instruction
  Ends = map (doing nodes guard (2 * n)) (filter_map (ending clusters actor) (numbered links))

  collected : (b c : Bool) (number : ℕ) (link : LinkInfo) → c ≡ true
      → option_map (doing nodes guard (2 * n)) (if b then (if c then Some (Collect number) else (if link.writer == actor then Some (Report number) else None)) else None)
      ≡ option_map (λ (l : ℕ). unguarded (Collect l) (2 * n)) (if b then Some number else None)
  collected true true number link is_it = ap Some (unguarded_is (Collect number) (2 * n))
  collected true false number link is_it = cc
  collected false c number link is_it = refl

  reported : (b c d : Bool) (number : ℕ) → c ≡ false
      → option_map (doing nodes guard (2 * n)) (if b then (if c then Some (Collect number) else (if d then Some (Report number) else None)) else None)
      ≡ option_map (λ (l : ℕ). unguarded (Report l) (2 * n)) (if b then (if d then Some number else None) else None)
  reported true true d number is_not = cc
  reported true false true number is_not = ap Some (unguarded_is (Report number) (2 * n))
  reported _ _ _ number is_not = refl

  pub collector_is : (actor == clusters) ≡ true → Ends ++ doing nodes guard (2 * n + 1) Commit ∷ [] ≡ at_end links clusters n actor
  collector_is test =
      let ends : Ends ≡ map (λ (l : ℕ). unguarded (Collect l) (2 * n)) (report_links links) =
      same_chosen (doing nodes guard (2 * n)) (ending clusters actor) (λ (l : ℕ). unguarded (Collect l) (2 * n))
      (λ (link : ℕ × LinkInfo). if is_signal link.1.signal None then Some link.0 else None)
      (λ link. collected (is_signal link.1.signal None) (actor == clusters) link.0 link.1 test) (numbered links) in
      (λ j. ends j ++ unguarded_is Commit (2 * n + 1) j ∷ [])
      ∙ sym (ap (λ (b : Bool). if b then map (λ link. unguarded (Collect link) (2 * n)) (report_links links) ++ unguarded Commit (2 * n + 1) ∷ []
      else map (λ link. unguarded (Report link) (2 * n)) (reports_of links actor)) test)

  pub cluster_is : (actor == clusters) ≡ false → Ends ≡ at_end links clusters n actor
  cluster_is test =
      let ends : Ends ≡ map (λ (l : ℕ). unguarded (Report l) (2 * n)) (reports_of links actor) =
      same_chosen (doing nodes guard (2 * n)) (ending clusters actor) (λ (l : ℕ). unguarded (Report l) (2 * n))
      (λ (link : ℕ × LinkInfo). if is_signal link.1.signal None then (if link.1.writer == actor then Some link.0 else None) else None)
      (λ link. reported (is_signal link.1.signal None) (actor == clusters) (link.1.writer == actor) link.0 test) (numbered links) in
      ends
      ∙ sym (ap (λ (b : Bool). if b then map (λ link. unguarded (Collect link) (2 * n)) (report_links links) ++ unguarded Commit (2 * n + 1) ∷ []
      else map (λ link. unguarded (Report link) (2 * n)) (reports_of links actor)) test)
