-- The words of declarations, pragmas and processes that the grammar has for spelled leaves are printable.
use Rattle.sig_print.proofs.Common.{◌≡◌, ℕ, suc, ◌-◌, ◌++◌, List, [], ◌∷◌, refl, sym, ap, ◌∙◌, subst, codes, inl, inr, length, take, arith, length-append, ◌≢◌, All, option_to_list, option_map, slice_range, flat_map, AllPass, is_label_byte, take_at, flat_map-append, All-head, All-tail, Span, Spaced, Spells, text_of, Token, TokenKind, Label, Last, Item, Declared, Placement, Heading, ProcessModel, Modelled, ProcessModels, no_model, more_models, Leaf, leaf, mark_terminal, terminal_of, leaves_of, Limits, Each, Separated, IsName, IsPlainItem, IsItem, IsGroup, IsParam, AreGroups, AreParams, IsInterface, IsPlacement, ArePragmas, IsLocalGroup, IsWhere, IsModel, AreLocals, names_words, optional_init_words, item_words, group_words, groups_words, params_words, pragma_words, pragmas_words, heading_words, local_words, where_words, body_words, process_words, processes_words, mark}
use Rattle.sig_lex.specs.declared.token.TokenKind.TheVariants.{Name, Number}
use Rattle.sig_print.proofs.Printable.{ArePrintable, both, AreGood, front_good, back_good, name_good, label_good, kind_good, opens, closes, opens_brace, closes_brace, comma, semicolon, asks, answers, equals, process_good, where_good, first_pragmas, last_pragmas, end_good}
use Rattle.sig_print.proofs.SpelledExpressions.{each_good, separated_good, inside_good, optional_good}
use Rattle.sig_print.proofs.SpelledEquations.{names_good, body_good}

plain_item_good : (item : Item) (ls : List Leaf) → AreGood ls → IsPlainItem item ls → ArePrintable (item_words item)
plain_item_good item ls are (none, e) = (name_good item.name.text (subst AreGood e are).0, subst (λ init. ArePrintable (optional_init_words init)) (sym none) tt)

item_good : (item : Item) (ls : List Leaf) → AreGood ls → IsItem item ls → ArePrintable (item_words item)
item_good item ls are (rest, e, h) = let parts = subst AreGood e are in (name_good item.name.text parts.0, optional_good item.init rest parts.1 h)

module _ (Is : Item → List Leaf → Type 0) (good : (item : Item) (ls : List Leaf) → AreGood ls → Is item ls → ArePrintable (item_words item)) where
  group_good : (group : Declared) (ls : List Leaf) → AreGood ls → IsGroup Is group ls → ArePrintable (group_words group)
  group_good group ls are (at, rest, e, h) =
      (kind_good group.kind, separated_good Is item_words good (mark_terminal (codes ",")) (mark (codes ",")) comma group.items rest (subst AreGood e are).1 h)

param_good : (group : Declared) (ls : List Leaf) → AreGood ls → IsParam group ls → ArePrintable (group_words group)
param_good group ls are h = group_good IsPlainItem plain_item_good group ls are h.1

groups_good : (Is : Declared → List Leaf → Type 0) (good : (group : Declared) (ls : List Leaf) → AreGood ls → Is group ls → ArePrintable (group_words group))
    → (groups : List Declared) (ls : List Leaf) → AreGood ls → AreGroups Is groups ls → ArePrintable (groups_words groups)
groups_good Is good [] ls are h = tt
groups_good Is good (g ∷ gs) ls are (front, back, e, h, k) =
    separated_good Is group_words good (mark_terminal (codes ";")) (mark (codes ";")) semicolon (g ∷ gs) front (front_good front back (subst AreGood e are)) h

params_from : (groups : List Declared) → ArePrintable (groups_words groups) → ArePrintable (params_words groups)
params_from [] good = tt
params_from (g ∷ gs) good = (opens_brace, both (groups_words (g ∷ gs)) _ good (closes_brace, tt))

params_good : (groups : List Declared) (ls : List Leaf) → AreGood ls → AreParams groups ls → ArePrintable (params_words groups)
params_good groups ls are (inl (e, f)) = subst (λ gs. ArePrintable (params_words gs)) (sym e) tt
params_good groups ls are (inr h) =
    let i = inside_good _ _ (AreGroups IsParam groups) ls are h in
    params_from groups (groups_good IsParam param_good groups i.0 i.1 i.2)

pragma_good : (pragma : Placement) (ls : List Leaf) → AreGood ls → IsPlacement pragma ls → ArePrintable (pragma_words pragma)
pragma_good pragma ls are (labelled, names, e, h) =
    let parts = subst AreGood e are in
    let i = inside_good _ _ (Separated IsName (mark_terminal (codes ",")) pragma.names) names (front_good names _ parts.1) h in (
      name_good (codes "RunOn") parts.0,
      (
        opens_brace,
        both (names_words pragma.names) _ (names_good pragma.names i.0 i.1 i.2)
            (closes_brace, (label_good pragma.label (back_good names _ parts.1).0, tt)),
      ),
    )

pragmas_from : (pragmas : List Placement) → ArePrintable (flat_map pragma_words pragmas) → ArePrintable (pragmas_words pragmas)
pragmas_from [] good = tt
pragmas_from (p ∷ ps) good = (first_pragmas, both (flat_map pragma_words (p ∷ ps)) _ good (end_good, (last_pragmas, tt)))

pragmas_good : (pragmas : List Placement) (ls : List Leaf) → AreGood ls → ArePragmas pragmas ls → ArePrintable (pragmas_words pragmas)
pragmas_good pragmas ls are (inl (e, f)) = subst (λ ps. ArePrintable (pragmas_words ps)) (sym e) tt
pragmas_good pragmas ls are (inr (first, ended, last, inside, e, h)) =
    pragmas_from pragmas (each_good IsPlacement pragma_words pragma_good pragmas inside (front_good inside _ (subst AreGood e are).1) h)

local_good : (group : Declared) (ls : List Leaf) → AreGood ls → IsLocalGroup group ls → ArePrintable (group_words group ++ mark (codes ";") ∷ [])
local_good group ls are (at, front, e, h) = both (group_words group) _ (group_good IsItem item_good group front (front_good front _ (subst AreGood e are)) h) (semicolon, tt)

locals_good : (groups : List Declared) (ls : List Leaf) → AreGood ls → Each IsLocalGroup groups ls → ArePrintable (local_words groups)
locals_good groups ls are h = each_good IsLocalGroup (λ g. group_words g ++ mark (codes ";") ∷ []) local_good groups ls are h

where_from : (groups : List Declared) (words : List Spaced) → ArePrintable (local_words groups) → ArePrintable words → ArePrintable (where_words groups words)
where_from [] [] first second = tt
where_from [] (s ∷ words) first second = (where_good, both (s ∷ words) _ second (end_good, tt))
where_from (g ∷ gs) words first second = (where_good, both (local_words (g ∷ gs)) _ first (both words _ second (end_good, tt)))

heading_good : (heading : Heading) (front : List Leaf) → AreGood front → AreParams heading.params front → Spells Name heading.name.text
    → (back : List Leaf) → AreGood back → IsInterface heading.inputs heading.outputs back → ArePrintable (heading_words heading)
heading_good heading front are params named back fine interface =
    let i = inside_good _ _ (λ inside. (asked answered : Span) × (front back : List Leaf)
    × (inside ≡ leaf (mark_terminal (codes "?")) asked ∷ (front ++ leaf (mark_terminal (codes "!")) answered ∷ back))
    × AreGroups (IsGroup IsPlainItem) heading.inputs front × AreGroups (IsGroup IsItem) heading.outputs back) back fine interface in
    let s = i.2 in
    let parts = (subst AreGood s.4 i.1).1 in (
      process_good,
      (
        name_good heading.name.text named,
        (
          equals,
          both (params_words heading.params) _ (params_good heading.params front are params) (
            opens,
            (
              asks,
              both (groups_words heading.inputs) _ (groups_good (IsGroup IsPlainItem) (group_good IsPlainItem plain_item_good) heading.inputs s.2 (front_good s.2 _ parts) s.5) (
                answers,
                both (groups_words heading.outputs) _ (groups_good (IsGroup IsItem) (group_good IsItem item_good) heading.outputs s.3 (back_good s.2 _ parts).1 s.6)
                    (closes, tt),
              ),
            ),
          ),
        ),
      ),
    )

where_good_from : (locals : List Declared) (inner : ProcessModels) (AreEntries : List Leaf → Type 0) (ls : List Leaf)
    → ((inside : List Leaf) → AreGood inside → AreEntries inside → ArePrintable (local_words locals) × ArePrintable (processes_words inner))
    → AreGood ls → IsWhere locals inner AreEntries ls → ArePrintable (where_words locals (processes_words inner))
where_good_from locals inner AreEntries ls entries are (inl (e, f, g)) =
    subst (λ gs. ArePrintable (where_words gs (processes_words inner))) (sym e) (subst (λ ms. ArePrintable (where_words [] (processes_words ms))) (sym f) tt)
where_good_from locals inner AreEntries ls entries are (inr h) =
    let i = inside_good _ _ AreEntries ls are h in
    let words = entries i.0 i.1 i.2 in
    where_from locals (processes_words inner) words.0 words.1

module _ (limits : Limits) where
  mutual
    pub model_good : (model : ProcessModel) (depth : ℕ) (ls : List Leaf) → AreGood ls → IsModel limits model depth ls → ArePrintable (process_words model)
    model_good (Modelled heading pragmas body locals inner) depth ls are
        (begun, equal, ended, params, interface, placed, equations, others, e, is_params, is_interface, are_pragmas, is_body, are_locals) =
        let parts = subst AreGood e are in
        let first = parts.1.1.1 in
        let second = back_good params _ first in
        let third = back_good interface _ second in
        let fourth = back_good placed _ third in
        let fifth = back_good equations _ fourth in
        both (heading_words heading) _ (heading_good heading params (front_good params _ first) is_params parts.1.0 interface (front_good interface _ second) is_interface)
        (both (pragmas_words pragmas) _ (pragmas_good pragmas placed (front_good placed _ third) are_pragmas)
        (both (body_words body) _ (body_good limits body depth equations (front_good equations _ fourth) is_body)
        (both (where_words locals (processes_words inner)) _ (where_good_from locals inner (AreLocals limits inner depth locals) others (λ inside good entries. entries_good inner depth locals inside good entries) (front_good others _ fifth) are_locals) (semicolon, tt))))

    entries_good : (inner : ProcessModels) (depth : ℕ) (groups : List Declared) (ls : List Leaf) → AreGood ls
        → AreLocals limits inner depth groups ls → ArePrintable (local_words groups) × ArePrintable (processes_words inner)
    entries_good no_model depth groups ls are h = (locals_good groups ls are h, tt)
    entries_good (more_models model rest) depth groups ls are (before, after, front, middle, back, f, e, h, m, k) =
        let parts = subst AreGood e are in
        let others = back_good front _ parts in
        let entries = entries_good rest depth after back (back_good middle back others) k in (
          subst (λ gs. ArePrintable (local_words gs)) (sym f) (subst ArePrintable (sym (flat_map-append (λ g. group_words g ++ mark (codes ";") ∷ []) before after))
              (both (local_words before) _ (locals_good before front (front_good front _ parts) h) entries.0)),
          both (process_words model) _ (model_good model (suc depth) middle (front_good middle back others) m.1) entries.1,
        )

-- a label without its quotes
pub inside_label : (inside : List ℕ) → slice_range (34 ∷ inside ++ 34 ∷ []) 1 (length (34 ∷ inside ++ 34 ∷ []) - 1) ≡ inside
inside_label inside =
    let e : length (34 ∷ inside ++ 34 ∷ []) - 1 - 1 ≡ length inside = omega (arith, length-append inside (34 ∷ [])) in
    ap (λ n. take n (inside ++ 34 ∷ [])) e ∙ take_at inside (34 ∷ []) (length inside) refl

-- the leaves of a text are spelled
at_token : (kind : TokenKind) (bytes : List ℕ) (at : Span) (rest : List Leaf) → (kind ≢ Last → Spells kind bytes) → AreGood rest
    → AreGood (option_to_list (option_map (λ terminal. leaf terminal at) (terminal_of kind bytes)) ++ rest)
at_token Name bytes at rest spelled good = (spelled (λ e. cc), good)
at_token (Number value) bytes at rest spelled good = ((spelled (λ e. cc)).not_above, good)
at_token Label bytes at rest spelled good =
    let l = spelled (λ e. cc) in
    (subst (λ b. AllPass is_label_byte (slice_range b 1 (length b - 1))) (sym l.quoted) (subst (AllPass is_label_byte) (sym (inside_label l.inside)) l.label_bytes), good)
at_token Last bytes at rest spelled good = good
at_token _ bytes at rest spelled good = (tt, good)

pub leaves_good : (text : List ℕ) (tokens : List Token) → All (λ t. t.kind ≢ Last → Spells t.kind (text_of text t)) tokens → AreGood (leaves_of text tokens)
leaves_good text [] all = tt
leaves_good text (t ∷ tokens) all =
    let Q : Token → Type 0 = λ t. t.kind ≢ Last → Spells t.kind (text_of text t) in
    at_token t.kind (text_of text t) t.at (leaves_of text tokens) (All-head Q t tokens all) (leaves_good text tokens (All-tail Q t tokens all))
