-- A tree without places, of leaves without places, can be given the places of any leaves that are
-- those: declarations, pragmas, processes and programs.
use Rattle.sig_print.proofs.Common.{◌≡◌, ℕ, suc, ◌++◌, List, [], ◌∷◌, refl, sym, ap, ◌∙◌, subst, codes, inl, inr, ◌⊎◌, Option, None, map, ◌≢◌, map-append, Span, Kind, Name, Constant, Item, Declared, Placement, Equations, Heading, ProcessModel, Modelled, ProcessModels, no_model, more_models, Leaf, leaf, name_leaf, name_terminal, word, Limits, Each, Separated, Between, IsOptionalInit, IsName, IsBody, IsPlainItem, IsItem, IsGroup, IsParam, AreGroups, AreParams, IsInterface, IsPlacement, ArePragmas, IsLocalGroup, IsWhere, IsModel, AreLocals, no_place, unplaced_leaves, unplaced_name, unplaced_init, unplaced_item, unplaced_declared, unplaced_placement, unplaced_equations, unplaced_model, unplaced_models}
use Rattle.sig_tree.specs.Terminals.{mark, label, kind_word}
use Rattle.sig_print.proofs.PlaceExpressions.{none_new, head_new, one_new, split_new, cons_same, place_each, place_separated, place_between, place_optional}
use Rattle.sig_print.proofs.PlaceEquations.{place_names, place_body}

abbrev item_with : Name → Option Constant → Item
item_with n init = record { name = n; init = init }

place_plain_item : (item : Item) (new : List Leaf) → IsPlainItem (unplaced_item item) (unplaced_leaves new) → (other : Item) × (unplaced_item other ≡ unplaced_item item) × IsPlainItem other new
place_plain_item item new (none, e) =
    let k = one_new new (name_leaf (unplaced_name item.name)) e in
    (item_with (record { text = item.name.text; at = k.0 }) None, ap (λ init. item_with (unplaced_name item.name) init) (sym none), (refl, k.1))

place_item : (item : Item) (new : List Leaf) → IsItem (unplaced_item item) (unplaced_leaves new) → (other : Item) × (unplaced_item other ≡ unplaced_item item) × IsItem other new
place_item item new (rest, e, h) =
    let t = head_new new (name_leaf (unplaced_name item.name)) rest e in
    let o = place_optional item.init t.1 (subst (IsOptionalInit (unplaced_init item.init)) (sym t.3) h) in
    (item_with (record { text = item.name.text; at = t.0 }) o.0, ap (λ init. item_with (unplaced_name item.name) init) o.1, (t.1, t.2, o.2))

abbrev group_with : Kind → List Item → Declared
group_with kind items = record { kind = kind; items = items }

place_group : (Is : Item → List Leaf → Type 0) → ((item : Item) (new : List Leaf) → Is (unplaced_item item) (unplaced_leaves new) → (other : Item) × (unplaced_item other ≡ unplaced_item item) × Is other new)
    → (group : Declared) (new : List Leaf) → IsGroup Is (unplaced_declared group) (unplaced_leaves new) → (other : Declared) × (unplaced_declared other ≡ unplaced_declared group) × IsGroup Is other new
place_group Is place group new (at, rest, e, h) =
    let t = head_new new (leaf (kind_word group.kind) at) rest e in
    let r = place_separated Is unplaced_item place (mark (codes ",")) group.items t.1 (subst (Separated Is (mark (codes ",")) (map unplaced_item group.items)) (sym t.3) h) in
    (group_with group.kind r.0, ap (λ items. group_with group.kind items) r.1, (t.0, t.1, t.2, r.2))

place_param : (group : Declared) (new : List Leaf) → IsParam (unplaced_declared group) (unplaced_leaves new) → (other : Declared) × (unplaced_declared other ≡ unplaced_declared group) × IsParam other new
place_param group new (kind, h) =
    let r = place_group IsPlainItem place_plain_item group new h in
    (r.0, r.1, ((λ e. kind (sym (ap (λ (g : Declared). g.kind) r.1) ∙ e)), r.2))

groups_from : (Is : Declared → List Leaf → Type 0) (groups : List Declared) (front back new : List Leaf) → new ≡ front ++ back → Separated Is (mark (codes ";")) groups front
    → ((back ≡ []) ⊎ ((at : Span) × (back ≡ leaf (mark (codes ";")) at ∷ []))) → AreGroups Is groups new
groups_from Is [] front back new e h k = absurd h
groups_from Is (g ∷ gs) front back new e h k = (front, back, e, h, k)

last_semicolon : (old new : List Leaf) → unplaced_leaves new ≡ old → ((old ≡ []) ⊎ ((at : Span) × (old ≡ leaf (mark (codes ";")) at ∷ [])))
    → ((new ≡ []) ⊎ ((at : Span) × (new ≡ leaf (mark (codes ";")) at ∷ [])))
last_semicolon old new e (inl f) = inl (none_new new (e ∙ f))
last_semicolon old new e (inr (at, f)) = let k = one_new new (leaf (mark (codes ";")) at) (e ∙ f) in inr (k.0, k.1)

place_groups : (Is : Declared → List Leaf → Type 0) → ((group : Declared) (new : List Leaf) → Is (unplaced_declared group) (unplaced_leaves new) → (other : Declared) × (unplaced_declared other ≡ unplaced_declared group) × Is other new)
    → (groups : List Declared) (new : List Leaf) → AreGroups Is (map unplaced_declared groups) (unplaced_leaves new)
    → (others : List Declared) × (map unplaced_declared others ≡ map unplaced_declared groups) × AreGroups Is others new
place_groups Is place [] new h = ([], refl, none_new new h)
place_groups Is place (g ∷ gs) new (front, back, e, h, k) =
    let s = split_new new front back e in
    let r = place_separated Is unplaced_declared place (mark (codes ";")) (g ∷ gs) s.0 (subst (Separated Is (mark (codes ";")) (map unplaced_declared (g ∷ gs))) (sym s.3) h) in
    (r.0, r.1, groups_from Is r.0 s.0 s.1 new s.2 r.2 (last_semicolon back s.1 s.4 k))

place_params : (groups : List Declared) (new : List Leaf) → AreParams (map unplaced_declared groups) (unplaced_leaves new)
    → (others : List Declared) × (map unplaced_declared others ≡ map unplaced_declared groups) × AreParams others new
place_params groups new (inl (e, f)) = ([], sym e, inl (refl, none_new new f))
place_params groups new (inr h) =
    let b = place_between (mark (codes "{")) (mark (codes "}")) (AreGroups IsParam (map unplaced_declared groups)) new h in
    let r = place_groups IsParam place_param groups b.2 b.4 in
    (r.0, r.1, inr (b.0, b.1, b.2, b.3, r.2))

abbrev Inside : (inputs outputs : List Declared) → List Leaf → Type 0
Inside inputs outputs inside = (asked answered : Span) × (front back : List Leaf)
    × (inside ≡ leaf (mark (codes "?")) asked ∷ (front ++ leaf (mark (codes "!")) answered ∷ back))
    × AreGroups (IsGroup IsPlainItem) inputs front × AreGroups (IsGroup IsItem) outputs back

place_inside : (inputs outputs : List Declared) (new : List Leaf) → Inside (map unplaced_declared inputs) (map unplaced_declared outputs) (unplaced_leaves new)
    → (ins outs : List Declared) × (map unplaced_declared ins ≡ map unplaced_declared inputs) × (map unplaced_declared outs ≡ map unplaced_declared outputs) × Inside ins outs new
place_inside inputs outputs new (asked, answered, front, back, e, h, k) =
    let t = head_new new (leaf (mark (codes "?")) asked) (front ++ leaf (mark (codes "!")) answered ∷ back) e in
    let s = split_new t.1 front (leaf (mark (codes "!")) answered ∷ back) t.3 in
    let u = head_new s.1 (leaf (mark (codes "!")) answered) back s.4 in
    let i = place_groups (IsGroup IsPlainItem) (place_group IsPlainItem place_plain_item) inputs s.0 (subst (AreGroups (IsGroup IsPlainItem) (map unplaced_declared inputs)) (sym s.3) h) in
    let o = place_groups (IsGroup IsItem) (place_group IsItem place_item) outputs u.1 (subst (AreGroups (IsGroup IsItem) (map unplaced_declared outputs)) (sym u.3) k) in
    (i.0, o.0, i.1, o.1, (t.0, u.0, s.0, u.1, t.2 ∙ ap (λ l. leaf (mark (codes "?")) t.0 ∷ l) (s.2 ∙ ap (λ l. s.0 ++ l) u.2), i.2, o.2))

place_interface : (inputs outputs : List Declared) (new : List Leaf) → IsInterface (map unplaced_declared inputs) (map unplaced_declared outputs) (unplaced_leaves new)
    → (ins outs : List Declared) × (map unplaced_declared ins ≡ map unplaced_declared inputs) × (map unplaced_declared outs ≡ map unplaced_declared outputs) × IsInterface ins outs new
place_interface inputs outputs new h =
    let b = place_between (mark (codes "(")) (mark (codes ")")) (Inside (map unplaced_declared inputs) (map unplaced_declared outputs)) new h in
    let r = place_inside inputs outputs b.2 b.4 in
    (r.0, r.1, r.2, r.3, (b.0, b.1, b.2, b.3, r.4))

abbrev placement_with : List Name → List ℕ → Span → Placement
placement_with names text at = record { names = names; label = text; at = at }

place_pragma : (pragma : Placement) (new : List Leaf) → IsPlacement (unplaced_placement pragma) (unplaced_leaves new) → (other : Placement) × (unplaced_placement other ≡ unplaced_placement pragma) × IsPlacement other new
place_pragma pragma new (labelled, names, e, h) =
    let t = head_new new (leaf (name_terminal (codes "RunOn")) no_place) (names ++ leaf (label pragma.label) labelled ∷ []) e in
    let s = split_new t.1 names (leaf (label pragma.label) labelled ∷ []) t.3 in
    let k = one_new s.1 (leaf (label pragma.label) labelled) s.4 in
    let b = place_between (mark (codes "{")) (mark (codes "}")) (Separated IsName (mark (codes ",")) (map unplaced_name pragma.names)) s.0
    (subst (Between (mark (codes "{")) (mark (codes "}")) (Separated IsName (mark (codes ",")) (map unplaced_name pragma.names))) (sym s.3) h) in
    let r = place_names pragma.names b.2 b.4 in (
      placement_with r.0 pragma.label t.0,
      ap (λ ns. placement_with ns pragma.label no_place) r.1,
      (k.0, s.0, t.2 ∙ ap (λ l. leaf (name_terminal (codes "RunOn")) t.0 ∷ l) (s.2 ∙ ap (λ l. s.0 ++ l) k.1), (b.0, b.1, b.2, b.3, r.2)),
    )

place_pragmas : (pragmas : List Placement) (new : List Leaf) → ArePragmas (map unplaced_placement pragmas) (unplaced_leaves new)
    → (others : List Placement) × (map unplaced_placement others ≡ map unplaced_placement pragmas) × ArePragmas others new
place_pragmas pragmas new (inl (e, f)) = ([], sym e, inl (refl, none_new new f))
place_pragmas pragmas new (inr (first, ended, last, inside, e, h)) =
    let close = leaf (word (codes "end")) ended ∷ leaf (word (codes "pragmas")) last ∷ [] in
    let t = head_new new (leaf (word (codes "pragmas")) first) (inside ++ close) e in
    let s = split_new t.1 inside close t.3 in
    let u = head_new s.1 (leaf (word (codes "end")) ended) (leaf (word (codes "pragmas")) last ∷ []) s.4 in
    let k = one_new u.1 (leaf (word (codes "pragmas")) last) u.3 in
    let r = place_each IsPlacement unplaced_placement place_pragma pragmas s.0 (subst (Each IsPlacement (map unplaced_placement pragmas)) (sym s.3) h) in (
      r.0,
      r.1,
      inr (
        t.0,
        u.0,
        k.0,
        s.0,
        t.2 ∙ ap (λ l. leaf (word (codes "pragmas")) t.0 ∷ l) (s.2 ∙ ap (λ l. s.0 ++ l) (u.2 ∙ ap (λ l. leaf (word (codes "end")) u.0 ∷ l) k.1)),
        r.2,
      ),
    )

place_local : (group : Declared) (new : List Leaf) → IsLocalGroup (unplaced_declared group) (unplaced_leaves new) → (other : Declared) × (unplaced_declared other ≡ unplaced_declared group) × IsLocalGroup other new
place_local group new (at, front, e, h) =
    let s = split_new new front (leaf (mark (codes ";")) at ∷ []) e in
    let k = one_new s.1 (leaf (mark (codes ";")) at) s.4 in
    let r = place_group IsItem place_item group s.0 (subst (IsGroup IsItem (unplaced_declared group)) (sym s.3) h) in
    (r.0, r.1, (k.0, s.0, s.2 ∙ ap (λ l. s.0 ++ l) k.1, r.2))

split_map : (groups before after : List Declared) → map unplaced_declared groups ≡ before ++ after
    → (a b : List Declared) × (map unplaced_declared a ≡ before) × (map unplaced_declared b ≡ after)
split_map groups [] after e = ([], groups, refl, e)
split_map [] (g ∷ before) after e = cc
split_map (h ∷ groups) (g ∷ before) after e =
    let first : unplaced_declared h ≡ g = cc in
    let rest : map unplaced_declared groups ≡ before ++ after = cc in
    let r = split_map groups before after rest in
    (h ∷ r.0, r.1, cons_same (unplaced_declared h) g (map unplaced_declared r.0) before first r.2, r.3)

abbrev heading_with : Name → List Declared → List Declared → List Declared → Heading
heading_with n params inputs outputs = record { name = n; params = params; inputs = inputs; outputs = outputs }

same_heading : (n : Name) (a b c d e f : List Declared) → a ≡ b → c ≡ d → e ≡ f → heading_with n a c e ≡ heading_with n b d f
same_heading n a b c d e f p q r = ap (λ x. heading_with n x c e) p ∙ ap (λ x. heading_with n b x e) q ∙ ap (λ x. heading_with n b d x) r

same_model : (a b : Heading) (c d : List Placement) (e f : Equations) (g h : List Declared) (i j : ProcessModels) → a ≡ b → c ≡ d → e ≡ f → g ≡ h → i ≡ j → Modelled a c e g i ≡ Modelled b d f h j
same_model a b c d e f g h i j p q r s t =
    ap (λ x. Modelled x c e g i) p ∙ ap (λ x. Modelled b x e g i) q ∙ ap (λ x. Modelled b d x g i) r ∙ ap (λ x. Modelled b d f x i) s ∙ ap (λ x. Modelled b d f h x) t

module _ (limits : Limits) where
  abbrev PlacedEntries : (inner : ProcessModels) (depth : ℕ) (groups : List Declared) (new : List Leaf) → Type 0
  PlacedEntries inner depth groups new = (others : List Declared) × (models : ProcessModels) × (map unplaced_declared others ≡ map unplaced_declared groups)
      × (unplaced_models models ≡ unplaced_models inner) × AreLocals limits models depth others new

  place_where : (locals : List Declared) (inner : ProcessModels) (depth : ℕ) (new : List Leaf)
      → ((l : List Leaf) → AreLocals limits (unplaced_models inner) depth (map unplaced_declared locals) (unplaced_leaves l) → PlacedEntries inner depth locals l)
      → IsWhere (map unplaced_declared locals) (unplaced_models inner) (AreLocals limits (unplaced_models inner) depth (map unplaced_declared locals)) (unplaced_leaves new)
      → (others : List Declared) × (models : ProcessModels) × (map unplaced_declared others ≡ map unplaced_declared locals)
      × (unplaced_models models ≡ unplaced_models inner) × IsWhere others models (AreLocals limits models depth others) new
  place_where locals inner depth new entries (inl (e, f, g)) = ([], no_model, sym e, sym f, inl (refl, refl, none_new new g))
  place_where locals inner depth new entries (inr h) =
      let b = place_between (word (codes "where")) (word (codes "end")) (AreLocals limits (unplaced_models inner) depth (map unplaced_declared locals)) new h in
      let r = entries b.2 b.4 in
      (r.0, r.1, r.2, r.3, inr (b.0, b.1, b.2, b.3, r.4))

  mutual
    pub place_model : (model : ProcessModel) (depth : ℕ) (new : List Leaf) → IsModel limits (unplaced_model model) depth (unplaced_leaves new)
        → (other : ProcessModel) × (unplaced_model other ≡ unplaced_model model) × IsModel limits other depth new
    place_model (Modelled heading pragmas body locals inner) depth new
        (begun, equal, ended, params, interface, placed, equations, others, e, is_params, is_interface, are_pragmas, is_body, are_locals) =
        let last = leaf (mark (codes ";")) ended ∷ [] in
        let all = params ++ (interface ++ (placed ++ (equations ++ (others ++ last)))) in
        let n = name_leaf (unplaced_name heading.name) in
        let t = head_new new (leaf (word (codes "process")) begun) (n ∷ leaf (mark (codes "=")) equal ∷ all) e in
        let u = head_new t.1 n (leaf (mark (codes "=")) equal ∷ all) t.3 in
        let v = head_new u.1 (leaf (mark (codes "=")) equal) all u.3 in
        let s1 = split_new v.1 params (interface ++ (placed ++ (equations ++ (others ++ last)))) v.3 in
        let s2 = split_new s1.1 interface (placed ++ (equations ++ (others ++ last))) s1.4 in
        let s3 = split_new s2.1 placed (equations ++ (others ++ last)) s2.4 in
        let s4 = split_new s3.1 equations (others ++ last) s3.4 in
        let s5 = split_new s4.1 others last s4.4 in
        let k = one_new s5.1 (leaf (mark (codes ";")) ended) s5.4 in
        let a = place_params heading.params s1.0 (subst (AreParams (map unplaced_declared heading.params)) (sym s1.3) is_params) in
        let b = place_interface heading.inputs heading.outputs s2.0 (subst (IsInterface (map unplaced_declared heading.inputs) (map unplaced_declared heading.outputs)) (sym s2.3) is_interface) in
        let c = place_pragmas pragmas s3.0 (subst (ArePragmas (map unplaced_placement pragmas)) (sym s3.3) are_pragmas) in
        let d = place_body limits body depth s4.0 (subst (IsBody limits (unplaced_equations body) depth) (sym s4.3) is_body) in
        let w = place_where locals inner depth s5.0 (λ l h. place_entries inner depth locals l h)
        (subst (IsWhere (map unplaced_declared locals) (unplaced_models inner) (AreLocals limits (unplaced_models inner) depth (map unplaced_declared locals))) (sym s5.3) are_locals) in (
          Modelled (heading_with (record { text = heading.name.text; at = u.0 }) a.0 b.0 b.1) c.0 d.0 w.0 w.1,
          same_model _ _ _ _ _ _ _ _ _ _ (same_heading (unplaced_name heading.name) _ _ _ _ _ _ a.1 b.2 b.3) c.1 d.1 w.2 w.3,
          (
            t.0,
            v.0,
            k.0,
            s1.0,
            s2.0,
            s3.0,
            s4.0,
            s5.0,
            t.2 ∙ ap (λ l. leaf (word (codes "process")) t.0 ∷ l) (u.2 ∙ ap (λ l. leaf (name_terminal heading.name.text) u.0 ∷ l) (v.2 ∙ ap (λ l. leaf (mark (codes "=")) v.0 ∷ l)
                (s1.2 ∙ ap (λ l. s1.0 ++ l) (s2.2 ∙ ap (λ l. s2.0 ++ l) (s3.2 ∙ ap (λ l. s3.0 ++ l) (s4.2 ∙ ap (λ l. s4.0 ++ l) (s5.2 ∙ ap (λ l. s5.0 ++ l) k.1))))))),
            a.2,
            b.4,
            c.2,
            d.2,
            w.4,
          ),
        )

    place_entries : (inner : ProcessModels) (depth : ℕ) (groups : List Declared) (new : List Leaf)
        → AreLocals limits (unplaced_models inner) depth (map unplaced_declared groups) (unplaced_leaves new) → PlacedEntries inner depth groups new
    place_entries no_model depth groups new h =
        let r = place_each IsLocalGroup unplaced_declared place_local groups new h in
        (r.0, no_model, r.1, refl, r.2)
    place_entries (more_models model rest) depth groups new (before, after, front, middle, back, f, e, h, (may, is), k) =
        let p = split_map groups before after f in
        let s = split_new new front (middle ++ back) e in
        let u = split_new s.1 middle back s.4 in
        let b = place_each IsLocalGroup unplaced_declared place_local p.0 s.0
        (subst (λ gs. Each IsLocalGroup gs (unplaced_leaves s.0)) (sym p.2) (subst (Each IsLocalGroup before) (sym s.3) h)) in
        let m = place_model model (suc depth) u.0 (subst (IsModel limits (unplaced_model model) (suc depth)) (sym u.3) is) in
        let r = place_entries rest depth p.1 u.1
        (subst (λ gs. AreLocals limits (unplaced_models rest) depth gs (unplaced_leaves u.1)) (sym p.3) (subst (AreLocals limits (unplaced_models rest) depth after) (sym u.4) k)) in (
          b.0 ++ r.0,
          more_models m.0 r.1,
          map-append unplaced_declared b.0 r.0 ∙ ap (λ x. x ++ map unplaced_declared r.0) (b.1 ∙ p.2) ∙ ap (λ x. before ++ x) (r.2 ∙ p.3) ∙ sym f,
          ap (λ x. more_models x (unplaced_models r.1)) m.1 ∙ ap (λ x. more_models (unplaced_model model) x) r.3,
          (b.0, r.0, s.0, u.0, u.1, refl, s.2 ∙ ap (λ l. s.0 ++ l) u.2, b.2, (may, m.2), r.4),
        )

-- a program stays one
pub placed_some : (processes others : List ProcessModel) → map unplaced_model others ≡ map unplaced_model processes → map unplaced_model processes ≢ [] → others ≢ []
placed_some processes [] e some = λ f. some (sym e)
placed_some processes (p ∷ others) e some = λ f. cc
