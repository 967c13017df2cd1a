-- The leaves of canonical words, their places left out, are those of the tree, its places left out:
-- declarations, pragmas, processes and programs.
use Rattle.sig_print.proofs.Common.{◌≡◌, ℕ, suc, ◌++◌, List, [], ◌∷◌, refl, sym, ap, ◌∙◌, subst, codes, inl, inr, Option, None, Some, map, append_assoc, ◌≢◌, option_to_list, option_map, flat_map, AllByRecursion, append-nil, Span, Spaced, Lexeme, lexemes, word_of, the_end, text_of, Token, Word, Item, Declared, Placement, ProcessModel, Modelled, ProcessModels, no_model, more_models, Terminal, Leaf, leaf, name_leaf, mark_terminal, word as word_terminal, name_terminal, label_terminal, terminal_of, leaves_of, Limits, Each, Separated, Between, IsName, IsPlainItem, IsItem, IsGroup, IsParam, AreGroups, AreParams, IsInterface, IsPlacement, ArePragmas, IsLocalGroup, IsWhere, IsModel, AreLocals, no_place, unplaced_leaves, unplaced_name, unplaced_init, unplaced_item, unplaced_declared, unplaced_placement, unplaced_model, unplaced_models, separated, names_words, optional_init_words, item_words, group_words, groups_words, params_words, pragma_words, pragmas_words, local_words, where_words, body_words, process_words, processes_words, on_new_line, reserved, name, mark, label}
use Rattle.sig_print.proofs.ReadExpressions.{leaf_in, spoken, spoken_append, kind_says, label_says, each_read, separated_read, between_read, optional_read}
use Rattle.sig_print.proofs.ReadEquations.{names_read, body_read}

plain_item_read : (item : Item) (ls : List Leaf) → IsPlainItem item ls → IsPlainItem (unplaced_item item) (spoken (item_words item))
plain_item_read item ls (none, e) = (ap unplaced_init none, ap (λ init. spoken (name item.name ∷ optional_init_words init)) none)

item_read : (item : Item) (ls : List Leaf) → IsItem item ls → IsItem (unplaced_item item) (spoken (item_words item))
item_read item ls (rest, e, h) = (spoken (optional_init_words item.init), refl, optional_read item.init rest h)

group_read : (Is : Item → List Leaf → Type 0) → ((item : Item) (ls : List Leaf) → Is item ls → Is (unplaced_item item) (spoken (item_words item)))
    → (group : Declared) (ls : List Leaf) → IsGroup Is group ls → IsGroup Is (unplaced_declared group) (spoken (group_words group))
group_read Is read group ls (at, rest, e, h) =
    let words = separated item_words (mark (codes ",")) group.items in (
      no_place,
      spoken words,
      kind_says group.kind words,
      separated_read Is Is unplaced_item item_words read (mark_terminal (codes ",")) (mark (codes ",")) (λ ws. refl) group.items rest h,
    )

param_read : (group : Declared) (ls : List Leaf) → IsParam group ls → IsParam (unplaced_declared group) (spoken (group_words group))
param_read group ls (kind, h) = (kind, group_read IsPlainItem plain_item_read group ls h)

groups_read : (Is : Declared → List Leaf → Type 0) → ((group : Declared) (ls : List Leaf) → Is group ls → Is (unplaced_declared group) (spoken (group_words group)))
    → (groups : List Declared) (ls : List Leaf) → AreGroups Is groups ls → AreGroups Is (map unplaced_declared groups) (spoken (groups_words groups))
groups_read Is read [] ls h = refl
groups_read Is read (g ∷ gs) ls (front, back, e, h, k) = (
  spoken (groups_words (g ∷ gs)),
  [],
  sym (append-nil (spoken (groups_words (g ∷ gs)))),
  separated_read Is Is unplaced_declared group_words read (mark_terminal (codes ";")) (mark (codes ";")) (λ ws. refl) (g ∷ gs) front h,
  inl refl,
)

params_read : (groups : List Declared) (ls : List Leaf) → AreParams groups ls → AreParams (map unplaced_declared groups) (spoken (params_words groups))
params_read [] ls h = inl (refl, refl)
params_read (g ∷ gs) ls (inl (e, f)) = cc
params_read (g ∷ gs) ls (inr h) =
    inr (between_read (mark_terminal (codes "{")) (mark_terminal (codes "}")) (mark (codes "{")) (mark (codes "}")) (λ ws. refl) (λ ws. refl)
    (AreGroups IsParam (map unplaced_declared (g ∷ gs))) (groups_words (g ∷ gs)) (groups_read IsParam param_read (g ∷ gs) h.2 h.4))

-- the words of an interface
abbrev interface_words : (inputs outputs : List Declared) → List Spaced
interface_words inputs outputs = mark (codes "(") ∷ mark (codes "?") ∷ (groups_words inputs ++ mark (codes "!") ∷ (groups_words outputs ++ mark (codes ")") ∷ []))

interface_read : (inputs outputs : List Declared) (ls : List Leaf) → IsInterface inputs outputs ls
    → IsInterface (map unplaced_declared inputs) (map unplaced_declared outputs) (spoken (interface_words inputs outputs))
interface_read inputs outputs ls h =
    let i = h.4 in
    let first = spoken (groups_words inputs) in
    let answers = leaf (mark_terminal (codes "!")) no_place in
    let last = leaf (mark_terminal (codes ")")) no_place ∷ [] in
    let opening = leaf (mark_terminal (codes "(")) no_place in
    let asks = leaf (mark_terminal (codes "?")) no_place in (
      no_place,
      no_place,
      asks ∷ (first ++ answers ∷ spoken (groups_words outputs)),
      ap (λ l. opening ∷ asks ∷ l) (spoken_append (groups_words inputs) (mark (codes "!") ∷ (groups_words outputs ++ mark (codes ")") ∷ []))
          ∙ ap (λ l. first ++ answers ∷ l) (spoken_append (groups_words outputs) (mark (codes ")") ∷ []))
          ∙ sym (append_assoc first (answers ∷ spoken (groups_words outputs)) last)),
      (
        no_place,
        no_place,
        first,
        spoken (groups_words outputs),
        refl,
        groups_read (IsGroup IsPlainItem) (group_read IsPlainItem plain_item_read) inputs i.2 i.5,
        groups_read (IsGroup IsItem) (group_read IsItem item_read) outputs i.3 i.6,
      ),
    )

pragma_read : (pragma : Placement) (ls : List Leaf) → IsPlacement pragma ls → IsPlacement (unplaced_placement pragma) (spoken (pragma_words pragma))
pragma_read pragma ls (labelled, names, e, h) =
    let words = names_words pragma.names in
    let close = leaf (mark_terminal (codes "}")) no_place ∷ [] in
    let labels = leaf (label_terminal pragma.label) no_place ∷ [] in
    let run = leaf (name_terminal (codes "RunOn")) no_place in
    let opening = leaf (mark_terminal (codes "{")) no_place in (
      no_place,
      spoken (mark (codes "{") ∷ (words ++ mark (codes "}") ∷ [])),
      ap (λ l. run ∷ opening ∷ l) (spoken_append words (mark (codes "}") ∷ label pragma.label ∷ [])
          ∙ ap (λ l. spoken words ++ leaf (mark_terminal (codes "}")) no_place ∷ l) (label_says pragma.label [])
          ∙ sym (append_assoc (spoken words) close labels)
          ∙ ap (λ l. l ++ labels) (sym (spoken_append words (mark (codes "}") ∷ [])))),
      between_read (mark_terminal (codes "{")) (mark_terminal (codes "}")) (mark (codes "{")) (mark (codes "}")) (λ ws. refl) (λ ws. refl)
          (Separated IsName (mark_terminal (codes ",")) (map unplaced_name pragma.names)) words (names_read pragma.names h.2 h.4),
    )

pragmas_read : (pragmas : List Placement) (ls : List Leaf) → ArePragmas pragmas ls → ArePragmas (map unplaced_placement pragmas) (spoken (pragmas_words pragmas))
pragmas_read [] ls h = inl (refl, refl)
pragmas_read (p ∷ ps) ls (inl (e, f)) = cc
pragmas_read (p ∷ ps) ls (inr (first, ended, last, inside, e, h)) =
    inr (
      no_place,
      no_place,
      no_place,
      spoken (flat_map pragma_words (p ∷ ps)),
      ap (λ l. leaf (word_terminal (codes "pragmas")) no_place ∷ l) (spoken_append (flat_map pragma_words (p ∷ ps)) (reserved (codes "end") ∷ reserved (codes "pragmas") ∷ [])),
      each_read IsPlacement IsPlacement unplaced_placement pragma_words pragma_read (p ∷ ps) inside h,
    )

local_read : (group : Declared) (ls : List Leaf) → IsLocalGroup group ls → IsLocalGroup (unplaced_declared group) (spoken (group_words group ++ mark (codes ";") ∷ []))
local_read group ls (at, front, e, h) =
    (no_place, spoken (group_words group), spoken_append (group_words group) (mark (codes ";") ∷ []), group_read IsItem item_read group front h)

-- groups that stand somewhere, each with its ';'
abbrev StandLocal : List Declared → Type 0
StandLocal groups = AllByRecursion (λ group. (ls : List Leaf) × IsLocalGroup group ls) groups

stand_append : (a b : List Declared) → StandLocal a → StandLocal b → StandLocal (a ++ b)
stand_append [] b first second = second
stand_append (g ∷ a) b (here, rest) second = (here, stand_append a b rest second)

stand_each : (groups : List Declared) (ls : List Leaf) → Each IsLocalGroup groups ls → StandLocal groups
stand_each [] ls h = tt
stand_each (g ∷ gs) ls (front, back, e, is, rest) = ((front, is), stand_each gs back rest)

locals_read : (groups : List Declared) → StandLocal groups → Each IsLocalGroup (map unplaced_declared groups) (spoken (local_words groups))
locals_read [] h = refl
locals_read (g ∷ gs) (here, rest) = (
  spoken (group_words g ++ mark (codes ";") ∷ []),
  spoken (local_words gs),
  spoken_append (group_words g ++ mark (codes ";") ∷ []) (local_words gs),
  local_read g here.0 here.1,
  locals_read gs rest,
)

module _ (limits : Limits) where
  groups_stand : (inner : ProcessModels) (depth : ℕ) (groups : List Declared) (ls : List Leaf) → AreLocals limits inner depth groups ls → StandLocal groups
  groups_stand no_model depth groups ls h = stand_each groups ls h
  groups_stand (more_models model rest) depth groups ls (before, after, front, middle, back, f, e, h, m, k) =
      subst StandLocal (sym f) (stand_append before after (stand_each before front h) (groups_stand rest depth after back k))

  shown_where_read : (groups : List Declared) (inner : ProcessModels) (depth : ℕ) (words : List Spaced)
      → AreLocals limits (unplaced_models inner) depth (map unplaced_declared groups) (spoken (local_words groups) ++ spoken words)
      → Between (word_terminal (codes "where")) (word_terminal (codes "end")) (AreLocals limits (unplaced_models inner) depth (map unplaced_declared groups))
      (spoken (on_new_line Word (codes "where") ∷ (local_words groups ++ (words ++ reserved (codes "end") ∷ []))))
  shown_where_read groups inner depth words h =
      let opening = leaf (word_terminal (codes "where")) no_place in
      let closing = leaf (word_terminal (codes "end")) no_place ∷ [] in (
        no_place,
        no_place,
        spoken (local_words groups) ++ spoken words,
        ap (λ l. opening ∷ l) (spoken_append (local_words groups) (words ++ reserved (codes "end") ∷ [])
            ∙ ap (λ l. spoken (local_words groups) ++ l) (spoken_append words (reserved (codes "end") ∷ []))
            ∙ sym (append_assoc (spoken (local_words groups)) (spoken words) closing)),
        h,
      )

  where_read : (locals : List Declared) (inner : ProcessModels) (depth : ℕ) (ls : List Leaf) → IsWhere locals inner (AreLocals limits inner depth locals) ls
      → ((ls : List Leaf) → AreLocals limits inner depth locals ls → AreLocals limits (unplaced_models inner) depth (map unplaced_declared locals) (spoken (local_words locals) ++ spoken (processes_words inner)))
      → IsWhere (map unplaced_declared locals) (unplaced_models inner) (AreLocals limits (unplaced_models inner) depth (map unplaced_declared locals)) (spoken (where_words locals (processes_words inner)))
  where_read [] no_model depth ls h read = inl (refl, refl, refl)
  where_read [] (more_models model rest) depth ls (inl (e, f, g)) read = cc
  where_read [] (more_models (Modelled heading pragmas body locals inner) rest) depth ls (inr h) read =
      let all = more_models (Modelled heading pragmas body locals inner) rest in
      inr (shown_where_read [] all depth (processes_words all) (read h.2 h.4))
  where_read (g ∷ gs) inner depth ls (inl (e, f, k)) read = cc
  where_read (g ∷ gs) inner depth ls (inr h) read = inr (shown_where_read (g ∷ gs) inner depth (processes_words inner) (read h.2 h.4))

  mutual
    pub model_read : (model : ProcessModel) (depth : ℕ) (ls : List Leaf) → IsModel limits model depth ls → IsModel limits (unplaced_model model) depth (spoken (process_words model))
    model_read (Modelled heading pragmas body locals inner) depth ls
        (begun, equal, ended, params, interface, placed, equations, others, e, is_params, is_interface, are_pragmas, is_body, are_locals) =
        let a = params_words heading.params in
        let b = interface_words heading.inputs heading.outputs in
        let c = pragmas_words pragmas in
        let d = body_words body in
        let w = where_words locals (processes_words inner) in
        let last = mark (codes ";") ∷ [] in
        let begin : List Leaf → List Leaf = λ l. leaf (word_terminal (codes "process")) no_place ∷ name_leaf (unplaced_name heading.name) ∷ leaf (mark_terminal (codes "=")) no_place ∷ l in (
          no_place,
          no_place,
          no_place,
          spoken a,
          spoken b,
          spoken c,
          spoken d,
          spoken w,
          ap begin (spoken_append (a ++ b) (c ++ (d ++ (w ++ last)))
              ∙ ap (λ l. l ++ spoken (c ++ (d ++ (w ++ last)))) (spoken_append a b)
              ∙ append_assoc (spoken a) (spoken b) (spoken (c ++ (d ++ (w ++ last))))
              ∙ ap (λ l. spoken a ++ (spoken b ++ l)) (spoken_append c (d ++ (w ++ last))
              ∙ ap (λ l. spoken c ++ l) (spoken_append d (w ++ last) ∙ ap (λ l. spoken d ++ l) (spoken_append w last)))),
          params_read heading.params params is_params,
          interface_read heading.inputs heading.outputs interface is_interface,
          pragmas_read pragmas placed are_pragmas,
          body_read limits body depth equations is_body,
          where_read locals inner depth others are_locals (λ l h. entries_read inner depth locals l h (map unplaced_declared locals) (spoken (local_words locals))
              (locals_read locals (groups_stand inner depth locals l h))),
        )

    -- the groups come before the processes
    entries_read : (inner : ProcessModels) (depth : ℕ) (groups : List Declared) (ls : List Leaf) → AreLocals limits inner depth groups ls
        → (first : List Declared) (front : List Leaf) → Each IsLocalGroup first front → AreLocals limits (unplaced_models inner) depth first (front ++ spoken (processes_words inner))
    entries_read no_model depth groups ls h first front each = subst (Each IsLocalGroup first) (sym (append-nil front)) each
    entries_read (more_models model rest) depth groups ls (before, after, f, middle, back, e, g, h, (may, is), k) first front each = (
      first,
      [],
      front,
      spoken (process_words model),
      spoken (processes_words rest),
      sym (append-nil first),
      ap (λ l. front ++ l) (spoken_append (process_words model) (processes_words rest)),
      each,
      (may, model_read model (suc depth) middle is),
      entries_read rest depth after back k [] [] refl,
    )

-- the leaves of tokens, their places left out, are those of their words
abbrev said : List Lexeme → List Leaf
said words = flat_map (λ w. leaf_in w.kind w.text) words

unplaced_option : (o : Option Terminal) (at : Span) (rest : List Leaf)
    → unplaced_leaves (option_to_list (option_map (λ t. leaf t at) o) ++ rest) ≡ option_to_list (option_map (λ t. leaf t no_place) o) ++ unplaced_leaves rest
unplaced_option None at rest = refl
unplaced_option (Some t) at rest = refl

said_by : (text : List ℕ) (tokens : List Token) → unplaced_leaves (leaves_of text tokens) ≡ said (lexemes text tokens)
said_by text [] = refl
said_by text (t ∷ tokens) = unplaced_option (terminal_of t.kind (text_of text t)) t.at (leaves_of text tokens) ∙ ap (λ l. leaf_in t.kind (text_of text t) ++ l) (said_by text tokens)

said_words : (words : List Spaced) → said (map word_of words ++ the_end ∷ []) ≡ spoken words
said_words [] = refl
said_words (s ∷ words) = ap (λ l. leaf_in s.word.kind s.word.text ++ l) (said_words words)

pub leaves_read : (text : List ℕ) (tokens : List Token) (words : List Spaced) → lexemes text tokens ≡ map word_of words ++ the_end ∷ [] → unplaced_leaves (leaves_of text tokens) ≡ spoken words
leaves_read text tokens words e = said_by text tokens ∙ ap said e ∙ said_words words

-- a program stays one
pub some_process : (processes : List ProcessModel) → processes ≢ [] → map unplaced_model processes ≢ []
some_process [] some = λ e. some refl
some_process (p ∷ ps) some = λ e. cc
