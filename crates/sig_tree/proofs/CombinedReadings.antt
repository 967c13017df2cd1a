-- One reading of what is put together of parts with one reading.
use Rattle.sig_tree.proofs.Common.{◌≡◌, ◌++◌, List, [], ◌∷◌, refl, sym, ap, ◌∙◌, subst, inl, inr, append_assoc, append_cancel_left, Terminal, Leaf, leaf, Between, Each, Further, Separated, Listed, StopsBefore, OneReading, StartsWith, ContinuesNothing, ContinuesList, ContinuesEach}
use Rattle.sig_tree.proofs.ListsThatStop.{stops_smaller}

-- one reading, of one tree
abbrev pub OneAt : {A : Type 0} → (A → List Leaf → Type 0) → (Terminal → Type 0) → A → Type 0
OneAt {A = A} Is Continues x = (y : A) (front other_front back other_back : List Leaf)
    → front ++ back ≡ other_front ++ other_back
    → Is x front → Is y other_front
    → StopsBefore Continues back → StopsBefore Continues other_back
    → (x ≡ y) × (front ≡ other_front)

pub cons_same : (l m : Leaf) (a b : List Leaf) → l ∷ a ≡ m ∷ b → (l ≡ m) × (a ≡ b)
cons_same l m a b e = (cc, cc)

pub append_to : (leaves front more back : List Leaf) → leaves ≡ front ++ more → leaves ++ back ≡ front ++ (more ++ back)
append_to leaves front more back e = ap (λ l. l ++ back) e ∙ append_assoc front more back

-- a set that the first leaf is in, and is not in
pub starts_stops : (Begins Continues : Terminal → Type 0) (front back : List Leaf) → ((t : Terminal) → Begins t → Continues t) → StartsWith Begins front → StopsBefore Continues (front ++ back) → ⊥
starts_stops Begins Continues [] back within starts stops = absurd starts
starts_stops Begins Continues (l ∷ front) back within starts stops = stops (within l.terminal starts)

pub starts_apart : (Begins Continues : Terminal → Type 0) (front back : List Leaf) → ((t : Terminal) → Begins t → Continues t → ⊥) → StartsWith Begins front → StopsBefore Continues (front ++ back)
starts_apart Begins Continues [] back apart starts = absurd starts
starts_apart Begins Continues (l ∷ front) back apart starts = apart l.terminal starts

module _ {A : Type 0} (Is : A → List Leaf → Type 0) (Continues : Terminal → Type 0) where
  -- a part, with what stands behind it
  pub part_at : (x : A) → OneAt Is Continues x → (y : A) (front other_front back other_back : List Leaf)
      → front ++ back ≡ other_front ++ other_back
      → Is x front → Is y other_front
      → StopsBefore Continues back → StopsBefore Continues other_back
      → (x ≡ y) × (front ≡ other_front) × (back ≡ other_back)
  part_at x once y front other_front back other_back e is other_is stops other_stops =
      let same = once y front other_front back other_back e is other_is stops other_stops in
      (same.0, same.1, append_cancel_left other_front back other_back (ap (λ l. l ++ back) (sym same.1) ∙ e))

  -- what stands between brackets
  module _ (opening closing : Terminal) (apart : Continues closing → ⊥) where
    pub between_at : (x : A) → OneAt Is Continues x → OneAt (λ x leaves. Between opening closing (Is x) leaves) ContinuesNothing x
    between_at x once y front other_front back other_back e (opened, closed, inside, f, is) (other_opened, other_closed, other_inside, g, other_is) stops other_stops =
        let close = leaf closing closed in
        let other_close = leaf closing other_closed in
        let first : leaf opening opened ∷ (inside ++ close ∷ back) ≡ leaf opening other_opened ∷ (other_inside ++ other_close ∷ other_back) =
        sym (append_to front (leaf opening opened ∷ inside) (close ∷ []) back f) ∙ e
        ∙ append_to other_front (leaf opening other_opened ∷ other_inside) (other_close ∷ []) other_back g in
        let heads = cons_same _ _ _ _ first in
        let part = part_at x once y inside other_inside (close ∷ back) (other_close ∷ other_back) heads.1 is other_is apart apart in
        let lasts = cons_same _ _ _ _ part.2 in
        let whole : front ≡ other_front = cc (f, g, heads.0, part.1, lasts.0) in
        (part.0, whole)

  module _ (once : OneReading Is Continues) where
    pub between_once : (opening closing : Terminal) → (Continues closing → ⊥) → OneReading (λ x leaves. Between opening closing (Is x) leaves) ContinuesNothing
    between_once opening closing apart x = between_at opening closing apart x (once x)

    -- { separator X }
    module _ (separator : Terminal) (apart : Continues separator → ⊥) where
      pub further_stops : (xs : List A) (front back : List Leaf) → Further Is separator xs front → StopsBefore Continues back → StopsBefore Continues (front ++ back)
      further_stops [] front back e stops = subst (λ (l : List Leaf). StopsBefore Continues (l ++ back)) (sym e) stops
      further_stops (x ∷ xs) front back (at, first, rest, e, is, are) stops = subst (λ (l : List Leaf). StopsBefore Continues (l ++ back)) (sym e) apart

      no_further : (y : A) (ys : List A) (front back : List Leaf) (leaves : List Leaf) → leaves ≡ front ++ back → Further Is separator (y ∷ ys) front → StopsBefore (ContinuesList separator Continues) leaves → ⊥
      no_further y ys front back leaves e (at, first, rest, f, is, are) stops =
          let begin : leaves ≡ leaf separator at ∷ ((first ++ rest) ++ back) = e ∙ ap (λ l. l ++ back) f in
          (subst (λ (l : List Leaf). StopsBefore (ContinuesList separator Continues) l) begin stops) (inl refl)

      list_stops : (back : List Leaf) → StopsBefore (ContinuesList separator Continues) back → StopsBefore Continues back
      list_stops back stops = stops_smaller (ContinuesList separator Continues) Continues (λ t continues. inr continues) back stops

      pub further_once : OneReading (Further Is separator) (ContinuesList separator Continues)
      further_once [] [] front other_front back other_back e are other_are stops other_stops = (refl, are ∙ sym other_are)
      further_once [] (y ∷ ys) front other_front back other_back e are other_are stops other_stops =
          absurd (no_further y ys other_front other_back back (ap (λ l. l ++ back) (sym are) ∙ e) other_are stops)
      further_once (x ∷ xs) [] front other_front back other_back e are other_are stops other_stops =
          absurd (no_further x xs front back other_back (ap (λ l. l ++ other_back) (sym other_are) ∙ sym e) are other_stops)
      further_once (x ∷ xs) (y ∷ ys) front other_front back other_back e (at, first, rest, f, is, are) (other_at, other_first, other_rest, g, other_is, other_are) stops other_stops =
          let begin : leaf separator at ∷ (first ++ (rest ++ back)) ≡ leaf separator other_at ∷ (other_first ++ (other_rest ++ other_back)) =
          sym (append_to front (leaf separator at ∷ first) rest back f) ∙ e ∙ append_to other_front (leaf separator other_at ∷ other_first) other_rest other_back g in
          let heads = cons_same _ _ _ _ begin in
          let part = part_at x (once x) y first other_first (rest ++ back) (other_rest ++ other_back) heads.1 is other_is
          (further_stops xs rest back are (list_stops back stops)) (further_stops ys other_rest other_back other_are (list_stops other_back other_stops)) in
          let others = further_once xs ys rest other_rest back other_back part.2 are other_are stops other_stops in
          let trees : x ∷ xs ≡ y ∷ ys = cc (part.0, others.0) in
          let whole : front ≡ other_front = cc (f, g, heads.0, part.1, others.1) in
          (trees, whole)

      -- X { separator X }
      pub separated_once : OneReading (Separated Is separator) (ContinuesList separator Continues)
      separated_once [] ys front other_front back other_back e are other_are stops other_stops = absurd are
      separated_once (x ∷ xs) [] front other_front back other_back e are other_are stops other_stops = absurd other_are
      separated_once (x ∷ xs) (y ∷ ys) front other_front back other_back e (first, rest, f, is, are) (other_first, other_rest, g, other_is, other_are) stops other_stops =
          let begin : first ++ (rest ++ back) ≡ other_first ++ (other_rest ++ other_back) =
          sym (append_to front first rest back f) ∙ e ∙ append_to other_front other_first other_rest other_back g in
          let part = part_at x (once x) y first other_first (rest ++ back) (other_rest ++ other_back) begin is other_is
          (further_stops xs rest back are (list_stops back stops)) (further_stops ys other_rest other_back other_are (list_stops other_back other_stops)) in
          let others = further_once xs ys rest other_rest back other_back part.2 are other_are stops other_stops in
          let trees : x ∷ xs ≡ y ∷ ys = cc (part.0, others.0) in
          let whole : front ≡ other_front = cc (f, g, part.1, others.1) in
          (trees, whole)

    -- what begins with something
    module _ (Begins : Terminal → Type 0) (begins : (x : A) (leaves : List Leaf) → Is x leaves → StartsWith Begins leaves) where
      -- [ X { separator X } ]
      module _ (separator : Terminal) (apart : Continues separator → ⊥) where
        no_listed : (y : A) (ys : List A) (front back leaves : List Leaf) → leaves ≡ front ++ back → Separated Is separator (y ∷ ys) front
            → StopsBefore (ContinuesEach Begins (ContinuesList separator Continues)) leaves → ⊥
        no_listed y ys front back leaves e (first, rest, f, is, are) stops =
            starts_stops Begins (ContinuesEach Begins (ContinuesList separator Continues)) first (rest ++ back) (λ t starts. inl starts) (begins y first is)
            (subst (λ (l : List Leaf). StopsBefore (ContinuesEach Begins (ContinuesList separator Continues)) l) (e ∙ append_to front first rest back f) stops)

        each_stops : (back : List Leaf) → StopsBefore (ContinuesEach Begins (ContinuesList separator Continues)) back → StopsBefore (ContinuesList separator Continues) back
        each_stops back stops = stops_smaller (ContinuesEach Begins (ContinuesList separator Continues)) (ContinuesList separator Continues) (λ t continues. inr continues) back stops

        pub listed_once : OneReading (Listed Is separator) (ContinuesEach Begins (ContinuesList separator Continues))
        listed_once [] [] front other_front back other_back e are other_are stops other_stops = (refl, are ∙ sym other_are)
        listed_once [] (y ∷ ys) front other_front back other_back e are other_are stops other_stops =
            absurd (no_listed y ys other_front other_back back (ap (λ l. l ++ back) (sym are) ∙ e) other_are stops)
        listed_once (x ∷ xs) [] front other_front back other_back e are other_are stops other_stops =
            absurd (no_listed x xs front back other_back (ap (λ l. l ++ other_back) (sym other_are) ∙ sym e) are other_stops)
        listed_once (x ∷ xs) (y ∷ ys) front other_front back other_back e are other_are stops other_stops =
            separated_once separator apart (x ∷ xs) (y ∷ ys) front other_front back other_back e are other_are (each_stops back stops) (each_stops other_back other_stops)

      -- { X }
      module _ (apart : (t : Terminal) → Begins t → Continues t → ⊥) where
        part_stops : (back : List Leaf) → StopsBefore (ContinuesEach Begins Continues) back → StopsBefore Continues back
        part_stops back stops = stops_smaller (ContinuesEach Begins Continues) Continues (λ t continues. inr continues) back stops

        pub each_then_stops : (xs : List A) (front back : List Leaf) → Each Is xs front → StopsBefore Continues back → StopsBefore Continues (front ++ back)
        each_then_stops [] front back e stops = subst (λ (l : List Leaf). StopsBefore Continues (l ++ back)) (sym e) stops
        each_then_stops (x ∷ xs) front back (first, rest, e, is, are) stops =
            subst (λ (l : List Leaf). StopsBefore Continues l) (sym (append_to front first rest back e)) (starts_apart Begins Continues first (rest ++ back) apart (begins x first is))

        no_each : (y : A) (ys : List A) (front back leaves : List Leaf) → leaves ≡ front ++ back → Each Is (y ∷ ys) front → StopsBefore (ContinuesEach Begins Continues) leaves → ⊥
        no_each y ys front back leaves e (first, rest, f, is, are) stops =
            starts_stops Begins (ContinuesEach Begins Continues) first (rest ++ back) (λ t starts. inl starts) (begins y first is)
            (subst (λ (l : List Leaf). StopsBefore (ContinuesEach Begins Continues) l) (e ∙ append_to front first rest back f) stops)

        pub each_once : OneReading (Each Is) (ContinuesEach Begins Continues)
        each_once [] [] front other_front back other_back e are other_are stops other_stops = (refl, are ∙ sym other_are)
        each_once [] (y ∷ ys) front other_front back other_back e are other_are stops other_stops =
            absurd (no_each y ys other_front other_back back (ap (λ l. l ++ back) (sym are) ∙ e) other_are stops)
        each_once (x ∷ xs) [] front other_front back other_back e are other_are stops other_stops =
            absurd (no_each x xs front back other_back (ap (λ l. l ++ other_back) (sym other_are) ∙ sym e) are other_stops)
        each_once (x ∷ xs) (y ∷ ys) front other_front back other_back e (first, rest, f, is, are) (other_first, other_rest, g, other_is, other_are) stops other_stops =
            let begin : first ++ (rest ++ back) ≡ other_first ++ (other_rest ++ other_back) =
            sym (append_to front first rest back f) ∙ e ∙ append_to other_front other_first other_rest other_back g in
            let part = part_at x (once x) y first other_first (rest ++ back) (other_rest ++ other_back) begin is other_is
            (each_then_stops xs rest back are (part_stops back stops)) (each_then_stops ys other_rest other_back other_are (part_stops other_back other_stops)) in
            let others = each_once xs ys rest other_rest back other_back part.2 are other_are stops other_stops in
            let trees : x ∷ xs ≡ y ∷ ys = cc (part.0, others.0) in
            let whole : front ≡ other_front = cc (f, g, part.1, others.1) in
            (trees, whole)
