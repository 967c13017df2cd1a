-- Lists whose elements are related one by one.
use Rattle.sig_judge.proofs.Common.{◌≡◌, ◌<◌, ◌+◌, ◌++◌, ◌⊎◌, ℕ, zero, suc, Bool, true, false, List, [], ◌∷◌, length, map, take, get_or, Option, None, Some, refl, sym, ap, subst, ◌∙◌, arith, inl, inr, AllByRecursion, AllZip, set, get_or-map, take_more, take_more_set, map-append, length-map, length-take-le, get_or-take, Instant, FlatExpression, HasPresence, Agree, zip_same}

pub zip_append : {A B : Type 0} (R : A → B → Type 0) → (xs : List A) (ys : List B) (x : A) (y : B) → AllZip R xs ys → R x y → AllZip R (xs ++ x ∷ []) (ys ++ y ∷ [])
zip_append R [] [] x y h r = (r, tt)
zip_append R [] (b ∷ ys) x y h r = absurd h
zip_append R (a ∷ xs) [] x y h r = absurd h
zip_append R (a ∷ xs) (b ∷ ys) x y h r = (h.0, zip_append R xs ys x y h.1 r)

pub zip_at : {A B : Type 0} (R : A → B → Type 0) → (xs : List A) (ys : List B) → AllZip R xs ys → (i : ℕ) (d : A) → i < length xs → (y : B) × R (get_or xs i d) y
zip_at R [] ys h i d lt = absurd (omega arith)
zip_at R (x ∷ xs) [] h i d lt = absurd h
zip_at R (x ∷ xs) (y ∷ ys) h zero d lt = (y, h.0)
zip_at R (x ∷ xs) (y ∷ ys) h (suc i) d lt = zip_at R xs ys h.1 i d (omega arith)

-- where the second list is split, so is the first
pub record Splits {A B : Type 0} (R : A → B → Type 0) (xs : List A) (front : List B) (y : B) : Type 0 where
  pub earlier : List A
  pub here : A
  pub later : List A
  pub are : xs ≡ earlier ++ here ∷ later
  pub long : length earlier ≡ length front
  pub each : AllZip R earlier front
  pub at : R here y

pub zip_split : {A B : Type 0} (R : A → B → Type 0) → (xs : List A) (front : List B) (y : B) (back : List B) → AllZip R xs (front ++ y ∷ back) → Splits R xs front y
zip_split R [] [] y back h = absurd h
zip_split R (x ∷ xs) [] y back h = record { earlier = []; here = x; later = xs; are = refl; long = refl; each = tt; at = h.0 }
zip_split R [] (z ∷ front) y back h = absurd h
zip_split R (x ∷ xs) (z ∷ front) y back h =
    let s = zip_split R xs front y back h.1 in
    record { earlier = x ∷ s.earlier; here = s.here; later = s.later; are = ap (λ rest. x ∷ rest) s.are; long = ap suc s.long; each = (h.0, s.each); at = s.at }

pub zip_map_left : {A B C : Type 0} (f : A → C) (R : C → B → Type 0) → (xs : List A) (ys : List B) → AllZip R (map f xs) ys → AllZip (λ a b. R (f a) b) xs ys
zip_map_left f R [] [] h = tt
zip_map_left f R [] (y ∷ ys) h = absurd h
zip_map_left f R (x ∷ xs) [] h = absurd h
zip_map_left f R (x ∷ xs) (y ∷ ys) h = (h.0, zip_map_left f R xs ys h.1)

pub all_at : {A : Type 0} (P : A → Type 0) → (front : List A) (x : A) (back : List A) → AllByRecursion P (front ++ x ∷ back) → P x
all_at P [] x back h = h.0
all_at P (z ∷ front) x back h = all_at P front x back h.1

pub all_map : {A B : Type 0} (f : A → B) (P : B → Type 0) (Q : A → Type 0) → ((a : A) → P (f a) → Q a) → (xs : List A) → AllByRecursion P (map f xs) → AllByRecursion Q xs
all_map f P Q g [] h = tt
all_map f P Q g (x ∷ xs) h = (g x h.0, all_map f P Q g xs h.1)

-- an operand has the presence of those before
abbrev pub AgreesWith : Instant → Option Bool → FlatExpression → FlatExpression → Type 0
AgreesWith now None e next = ⊥
AgreesWith now (Some present) e next = HasPresence now present e next
    × ((presence : Bool) (other : FlatExpression) → HasPresence now presence e other → presence ≡ present)

-- one more operand of the presence of those before
pub one_more : (now : Instant) (agreed : Option Bool) (present : Bool) → (agreed ≡ None) ⊎ (agreed ≡ Some present) → (e next : FlatExpression) → AgreesWith now agreed e next → AgreesWith now (Some present) e next
one_more now agreed present (inl none) e next h = absurd (subst (λ a. AgreesWith now a e next) none h)
one_more now agreed present (inr same) e next h = subst (λ a. AgreesWith now a e next) same h

one_presence : (now : Instant) (es others : List FlatExpression) → Agree now es others → (p : Bool) × AllZip (HasPresence now p) es others
one_presence now es others (inl h) = (false, h)
one_presence now es others (inr h) = (true, h)

agree_of : (now : Instant) (p : Bool) (es others : List FlatExpression) → AllZip (HasPresence now p) es others → Agree now es others
agree_of now false es others h = inl h
agree_of now true es others h = inr h

-- all agree
pub all_agree : (now : Instant) (agreed : Option Bool) (es nexts : List FlatExpression) → AllZip (AgreesWith now agreed) es nexts → Agree now es nexts
all_agree now (Some p) es nexts h = agree_of now p es nexts (zip_same (AgreesWith now (Some p)) (HasPresence now p) (λ e next a. a.0) es nexts h)
all_agree now None [] [] h = inl tt
all_agree now None [] (y ∷ nexts) h = absurd h
all_agree now None (e ∷ es) [] h = absurd h
all_agree now None (e ∷ es) (y ∷ nexts) h = absurd h.0

-- one has no presence
pub none_agrees : (now : Instant) (es : List FlatExpression) (i : ℕ) (d : FlatExpression) → i < length es
    → ((p : Bool) (other : FlatExpression) → HasPresence now p (get_or es i d) other → ⊥) → (others : List FlatExpression) → Agree now es others → ⊥
none_agrees now es i d lt none others h =
    let p = one_presence now es others h in
    let r = zip_at (HasPresence now p.0) es others p.1 i d lt in
    none p.0 r.0 r.1

-- two have different presences
pub two_agree : (now : Instant) (es : List FlatExpression) (i j : ℕ) (d : FlatExpression) (p q : Bool) → i < length es → j < length es
    → ((r : Bool) (other : FlatExpression) → HasPresence now r (get_or es i d) other → r ≡ p)
    → ((r : Bool) (other : FlatExpression) → HasPresence now r (get_or es j d) other → r ≡ q)
    → (others : List FlatExpression) → Agree now es others → p ≡ q
two_agree now es i j d p q lt below first second others h =
    let r = one_presence now es others h in
    let a = zip_at (HasPresence now r.0) es others r.1 i d lt in
    let b = zip_at (HasPresence now r.0) es others r.1 j d below in
    sym (first r.0 a.0 a.1) ∙ second r.0 b.0 b.1

pub zip_length : {A B : Type 0} (R : A → B → Type 0) → (xs : List A) (ys : List B) → AllZip R xs ys → length xs ≡ length ys
zip_length R [] [] h = refl
zip_length R [] (y ∷ ys) h = absurd h
zip_length R (x ∷ xs) [] h = absurd h
zip_length R (x ∷ xs) (y ∷ ys) h = ap suc (zip_length R xs ys h.1)

-- one more element of two lists, of which the second was changed there
pub zip_more : {A C : Type 0} (f : A → C) (R : C → C → Type 0) → (xs ys : List A) (i : ℕ) (d y : A) → AllZip R (map f (take i xs)) (map f (take i ys)) → i < length xs → i < length ys
    → R (f (get_or xs i d)) (f y) → AllZip R (map f (take (i + 1) xs)) (map f (take (i + 1) (set ys i y)))
zip_more {A} {C} f R xs ys i d y h lt below r =
    subst (λ (a : List A). AllZip R (map f a) (map f (take (i + 1) (set ys i y)))) (sym (take_more xs i d lt))
    (subst (λ (b : List A). AllZip R (map f (take i xs ++ get_or xs i d ∷ [])) (map f b)) (sym (take_more_set ys i y below))
    (subst (λ (m : List C). AllZip R m (map f (take i ys ++ y ∷ []))) (sym (map-append f (take i xs) (get_or xs i d ∷ [])))
    (subst (λ (m : List C). AllZip R (map f (take i xs) ++ f (get_or xs i d) ∷ []) m) (sym (map-append f (take i ys) (y ∷ [])))
    (zip_append R (map f (take i xs)) (map f (take i ys)) (f (get_or xs i d)) (f y) h r))))

-- an operand that has not the presence of those before
pub disagreed : {A : Type 0} (now : Instant) (f : A → FlatExpression) (xs ys : List A) (i : ℕ) (d : A) (agreed : Option Bool) (present : Bool) → i < length (map f xs)
    → (agreed ≡ None) ⊎ (0 < i) → AllZip (AgreesWith now agreed) (map f (take i xs)) (map f (take i ys))
    → ((r : Bool) (other : FlatExpression) → HasPresence now r (get_or (map f xs) i (f d)) other → r ≡ present)
    → ((agreed ≡ None) ⊎ (agreed ≡ Some present) → ⊥) → (others : List FlatExpression) → Agree now (map f xs) others → ⊥
disagreed now f xs ys i d None present lt some done last differs others h = differs (inl refl)
disagreed now f xs ys i d (Some p) present lt (inl none) done last differs others h = differs (inl none)
disagreed now f xs ys i d (Some p) present lt (inr above) done last differs others h =
    let within : i < length xs = omega (arith, length-map xs f) in
    let long : length (map f (take i xs)) ≡ i = length-map (take i xs) f ∙ length-take-le i xs (omega arith) in
    let first = zip_at (AgreesWith now (Some p)) (map f (take i xs)) (map f (take i ys)) done 0 (f d) (omega arith) in
    let same : get_or (map f (take i xs)) 0 (f d) ≡ get_or (map f xs) 0 (f d) =
    get_or-map f (take i xs) 0 d ∙ ap f (get_or-take i xs 0 d above) ∙ sym (get_or-map f xs 0 d) in
    let uniq : (r : Bool) (other : FlatExpression) → HasPresence now r (get_or (map f xs) 0 (f d)) other → r ≡ p =
    λ r other g. first.1.1 r other (subst (λ (e : FlatExpression). HasPresence now r e other) (sym same) g) in
    differs (inr (ap Some (two_agree now (map f xs) 0 i (f d) p present (omega arith) lt uniq last others h)))
