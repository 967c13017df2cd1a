-- What is left of traces where the paces and the compiler's signals go: silent instants, beginnings and lengths.
use Rattle.sig_tool.proofs.Common.{◌≡◌, ◌≤◌, ◌++◌, ◌∙◌, ℕ, zero, suc, Bool, true, false, List, [], ◌∷◌, length, map, take, refl, sym, ap, arith, filter-append, map-append, not, None, Some, range_with_len, slice_index_or, IsPrefixOf, Instant, Trace, is_silent, silent_at, reduce, Kernel, at_paces, without_paces}

-- a function of instants that leaves silent ones silent
abbrev pub KeepsSilence : (Instant → Instant) → Type 0
KeepsSilence f = (instant : Instant) → is_silent instant ≡ true → is_silent (f instant) ≡ true

all_absent : (places : List ℕ) (place : ℕ → ℕ) (instant : Instant) → is_silent instant ≡ true
    → (let left : Instant = map (λ signal. slice_index_or instant (place signal) None) places in is_silent left ≡ true)
all_absent [] place instant silent = refl
all_absent (signal ∷ places) place instant silent = rw (silent_at instant (place signal) silent) (all_absent places place instant silent)

pub fewer_silent : (n : ℕ) (instant : Instant) → is_silent instant ≡ true → is_silent (take n instant) ≡ true
fewer_silent zero instant silent = refl
fewer_silent (suc n) [] silent = refl
fewer_silent (suc n) (None ∷ instant) silent = fewer_silent n instant silent
fewer_silent (suc n) (Some v ∷ instant) silent = cc

-- what is left of an instant
abbrev pub left_of : Kernel → List ℕ → Instant → Instant
left_of own least instant = take own.declared (without_paces own least instant)

pub keeps_silence : (own : Kernel) (least : List ℕ) → KeepsSilence (left_of own least)
keeps_silence own least instant silent =
    fewer_silent own.declared (without_paces own least instant) (all_absent (range_with_len 0 (length own.signals)) _ instant silent)

pub left_instants : (own : Kernel) (least : List ℕ) (wide : Trace) → at_paces own least wide ≡ map (left_of own least) wide
left_instants own least [] = refl
left_instants own least (instant ∷ wide) = ap (λ rest. left_of own least instant ∷ rest) (left_instants own least wide)

module _ (f : Instant → Instant) (keeps : KeepsSilence f) where
  -- silent instants may go before or behind
  pub reduced_first : (wide : Trace) → reduce (map f (reduce wide)) ≡ reduce (map f wide)
  reduced_first [] = refl
  reduced_first (instant ∷ wide) = one (is_silent instant) refl (reduced_first wide) where
    again : (silent : Bool) → is_silent (f instant) ≡ silent → reduce (map f (reduce wide)) ≡ reduce (map f wide)
        → reduce (f instant ∷ map f (reduce wide)) ≡ reduce (f instant ∷ map f wide)
    again true is rest = rw is rest
    again false is rest = rw is (ap (λ trace. f instant ∷ trace) rest)

    one : (silent : Bool) → is_silent instant ≡ silent → reduce (map f (reduce wide)) ≡ reduce (map f wide)
        → reduce (map f (reduce (instant ∷ wide))) ≡ reduce (map f (instant ∷ wide))
    one true is rest = rw (is, keeps instant is) rest
    one false is rest = rw is (again (is_silent (f instant)) refl rest)

  pub prefix_left : (front wide : Trace) → IsPrefixOf front wide → IsPrefixOf (reduce (map f front)) (reduce (map f wide))
  prefix_left front wide begins = (
    reduce (map f begins.0),
    ap (λ trace. reduce (map f trace)) begins.1 ∙ ap reduce (map-append f front begins.0)
        ∙ filter-append (λ instant. not (is_silent instant)) (map f front) (map f begins.0),
  )

-- what begins the rest of a trace is left of what begins the trace
pub record LeftOf (f : Instant → Instant) (front wide : Trace) : Type 0 where
  pub part : Trace
  pub begins : IsPrefixOf part wide
  pub is : reduce (map f part) ≡ front

first_same : {x y : Instant} {xs ys : Trace} → x ∷ xs ≡ y ∷ ys → x ≡ y
first_same {x} {y} {xs} {ys} e = ap (first x) e where
  first : Instant → Trace → Instant
  first d [] = d
  first d (z ∷ zs) = z

rest_same : {x y : Instant} {xs ys : Trace} → x ∷ xs ≡ y ∷ ys → xs ≡ ys
rest_same {x} {y} {xs} {ys} e = ap rest e where
  rest : Trace → Trace
  rest [] = []
  rest (z ∷ zs) = zs

silent_goes : (instant : Instant) (trace : Trace) → is_silent instant ≡ true → reduce (instant ∷ trace) ≡ reduce trace
silent_goes instant trace is = rw is refl

speaking_stays : (instant : Instant) (trace : Trace) → is_silent instant ≡ false → reduce (instant ∷ trace) ≡ instant ∷ reduce trace
speaking_stays instant trace is = rw is refl

module _ (f : Instant → Instant) where
  pub left_of_beginning : (front wide : Trace) → IsPrefixOf front (reduce (map f wide)) → LeftOf f front wide
  left_of_beginning [] wide begins = record { part = []; begins = (wide, refl); is = refl }
  left_of_beginning (x ∷ front) [] begins = absurd (let e : [] ≡ x ∷ (front ++ begins.0) = begins.1 in cc)
  left_of_beginning (x ∷ front) (instant ∷ wide) begins =
      by (is_silent (f instant)) refl (left_of_beginning (x ∷ front) wide) (left_of_beginning front wide) where
        by : (silent : Bool) → is_silent (f instant) ≡ silent → (IsPrefixOf (x ∷ front) (reduce (map f wide)) → LeftOf f (x ∷ front) wide)
            → (IsPrefixOf front (reduce (map f wide)) → LeftOf f front wide) → LeftOf f (x ∷ front) (instant ∷ wide)
        by true is all rest =
            let same : reduce (map f (instant ∷ wide)) ≡ reduce (map f wide) = silent_goes (f instant) (map f wide) is in
            let left = all (begins.0, sym same ∙ begins.1) in
            record {
              part = instant ∷ left.part;
              begins = (left.begins.0, ap (λ trace. instant ∷ trace) left.begins.1);
              is = silent_goes (f instant) (map f left.part) is ∙ left.is;
            }
        by false is all rest =
            let same : reduce (map f (instant ∷ wide)) ≡ f instant ∷ reduce (map f wide) = speaking_stays (f instant) (map f wide) is in
            let both : f instant ∷ reduce (map f wide) ≡ x ∷ (front ++ begins.0) = sym same ∙ begins.1 in
            let left = rest (begins.0, rest_same both) in
            record {
              part = instant ∷ left.part;
              begins = (left.begins.0, ap (λ trace. instant ∷ trace) left.begins.1);
              is = speaking_stays (f instant) (map f left.part) is ∙ ap (λ trace. f instant ∷ trace) left.is ∙ ap (λ i. i ∷ front) (first_same both);
            }

pub reduced_shorter : (trace : Trace) → length (reduce trace) ≤ length trace
reduced_shorter [] = omega arith
reduced_shorter (instant ∷ trace) = one (is_silent instant) refl (reduced_shorter trace) where
  one : (silent : Bool) → is_silent instant ≡ silent → length (reduce trace) ≤ length trace → length (reduce (instant ∷ trace)) ≤ length (instant ∷ trace)
  one true is less = rw is (omega (arith, less))
  one false is less = rw is (omega (arith, less))
