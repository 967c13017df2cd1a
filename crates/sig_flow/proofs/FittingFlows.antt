-- Lemmas: the values that are read are of the kinds of their inputs.
use Rattle.sig_flow.proofs.Common.{◌≡◌, ◌≤◌, ◌++◌, ◌^◌, ℕ, zero, suc, ℤ, pos, neg_ℤ, Bool, true, false, ◌&&◌, List, [], ◌∷◌, length, get_or, replicate, refl, sym, ap, ◌∙◌, subst, arith, Option, None, Some, Result, Ok, Err, bytes_eq, codes, flat_map, nat_le, nat_lt, if◌then◌else◌, ◌==◌, list_all, before_first, after_first, position_or_len, digits_value, false≢true, leb-true, lt-ltb, get_or-map, length-map, AllPass-from_list_all, has_64_bits, Kind, Integer, Boolean, Event, Signal, AreFlowsFor, inputs_of, value_is, Kernel, AreFlows, file_body, flow_in, values_for, values_of, Line, integer_of, is_numeral, is_star, is_within, repeated, run_said, run_values, starred, times_said, value_said, Word, words_of, Version, One, Two, WordFault, Bad, Outside, and_parts}

-- where a word has a value, it is one of the kind
abbrev IsGood : Kind → Result ℤ WordFault → Type 0
IsGood kind (Ok value) = value_is kind value ≡ true
IsGood kind (Err fault) = Unit {0}

negative : (n : ℕ) → nat_le n (2 ^ 63) ≡ true → has_64_bits (neg_ℤ (pos n)) ≡ true
negative zero le = refl
negative (suc n) le = let most : suc n ≤ 2 ^ 63 = leb-true (suc n) (2 ^ 63) le in lt-ltb n (2 ^ 63) (omega (arith, most))

signed : (minus : Bool) (m n : ℕ) → (if minus then nat_le m (2 ^ 63) else nat_lt n (2 ^ 63)) ≡ true → has_64_bits (if minus then neg_ℤ (pos m) else pos n) ≡ true
signed true m n within = negative m within
signed false m n within = within

within_64 : (word : List ℕ) → is_within word ≡ true → has_64_bits (integer_of word) ≡ true
within_64 [] within = absurd (false≢true within)
within_64 (c ∷ cs) within = signed (c == 45) (digits_value 10 cs) (digits_value 10 (c ∷ cs)) within

integer_good : (numeral within : Bool) (v : ℤ) → (within ≡ true → has_64_bits v ≡ true) → IsGood Integer (if numeral then (if within then Ok v else Err Outside) else Err Bad)
integer_good true true v fits = fits refl
integer_good _ _ v fits = tt

boolean_good : (a b : Bool) → IsGood Boolean (if a then Ok (pos 1) else if b then Ok (pos 0) else Err Bad)
boolean_good false false = tt
boolean_good _ _ = refl

event_good : (a : Bool) → IsGood Event (if a then Ok (pos 1) else Err Bad)
event_good true = refl
event_good false = tt

said_good : (kind : Kind) (word : List ℕ) → IsGood kind (value_said kind word)
said_good Integer word = integer_good (is_numeral word) (is_within word) (integer_of word) (within_64 word)
said_good Boolean word = boolean_good (bytes_eq word (codes "true")) (bytes_eq word (codes "false"))
said_good Event word = event_good (bytes_eq word (codes "true"))

-- all values of a list are of the kind
abbrev AllGood : Kind → List ℤ → Type 0
AllGood kind values = list_all (value_is kind) values ≡ true

more_good : (kind : Kind) (v : ℤ) (values : List ℤ) → value_is kind v ≡ true → AllGood kind values → AllGood kind (v ∷ values)
more_good kind v values first rest = ap (λ b. b && list_all (value_is kind) values) first ∙ rest

append_good : (kind : Kind) (front back : List ℤ) → AllGood kind front → AllGood kind back → AllGood kind (front ++ back)
append_good kind [] back first rest = rest
append_good kind (v ∷ front) back first rest =
    let parts = and_parts (value_is kind v) (list_all (value_is kind) front) first in
    more_good kind v (front ++ back) parts.0 (append_good kind front back parts.1 rest)

flat_good : {A : Type 0} (kind : Kind) (values : A → List ℤ) (xs : List A) → ((x : A) → AllGood kind (values x)) → AllGood kind (flat_map values xs)
flat_good kind values [] each = refl
flat_good kind values (x ∷ xs) each = append_good kind (values x) (flat_map values xs) (each x) (flat_good kind values xs each)

replicate_good : (kind : Kind) (times : ℕ) (v : ℤ) → value_is kind v ≡ true → AllGood kind (replicate times v)
replicate_good kind zero v is = refl
replicate_good kind (suc times) v is = more_good kind v (replicate times v) is (replicate_good kind times v is)

repeated_good : (kind : Kind) (times : ℕ) (value : Result ℤ WordFault) → IsGood kind value → AllGood kind (run_values (repeated times value))
repeated_good kind times (Ok v) is = replicate_good kind times v is
repeated_good kind times (Err fault) is = refl

starred_good : (kind : Kind) (times : Option ℕ) (value : Result ℤ WordFault) → IsGood kind value → AllGood kind (run_values (starred times value))
starred_good kind None value is = refl
starred_good kind (Some times) value is = repeated_good kind times value is

run_good : (version : Version) (kind : Kind) (word : List ℕ) → AllGood kind (run_values (run_said version kind word))
run_good One kind word = repeated_good kind 1 (value_said kind word) (said_good kind word)
run_good Two kind word = by (nat_lt (position_or_len is_star word) (length word)) where
  by : (star : Bool) → AllGood kind (run_values (if star
      then starred (times_said (after_first is_star word)) (value_said kind (before_first is_star word))
      else repeated 1 (value_said kind word)))
  by true = starred_good kind (times_said (after_first is_star word)) (value_said kind (before_first is_star word)) (said_good kind (before_first is_star word))
  by false = repeated_good kind 1 (value_said kind word) (said_good kind word)

line_good : (version : Version) (input : Signal) (words : List Word) → AllGood input.kind (values_for version input words)
line_good version input [] = refl
line_good version input (name ∷ values) = by (bytes_eq name.text input.name) where
  by : (named : Bool) → AllGood input.kind (if named then values_of version input.kind values else [])
  by true = flat_good input.kind (λ (word : Word). run_values (run_said version input.kind word.text)) values (λ word. run_good version input.kind word.text)
  by false = refl

flow_good : (version : Version) (lines : List Line) (input : Signal) → AllGood input.kind (flow_in version lines input)
flow_good version lines input = flat_good input.kind (λ (line : Line). values_for version input (words_of line.text)) lines (λ line. line_good version input (words_of line.text))

-- flows that are read fit
pub read_fit : (kernel : Kernel) (bytes : List ℕ) (flows : List (List ℤ)) → AreFlows (inputs_of kernel) bytes flows → AreFlowsFor kernel flows
read_fit kernel bytes flows are =
    let version : Version = (file_body (inputs_of kernel) bytes).version in
    let lines : List Line = (file_body (inputs_of kernel) bytes).lines in
    record {
      count = ap length are.each ∙ length-map (inputs_of kernel) (flow_in version lines);
      kinds = λ k input lt.
          let own : Signal = get_or (inputs_of kernel) k input in
          let is : get_or flows k [] ≡ flow_in version lines own = ap (λ xs. get_or xs k []) are.each ∙ get_or-map (flow_in version lines) (inputs_of kernel) k input [] lt in
          AllPass-from_list_all (value_is own.kind) (get_or flows k []) (subst (λ values. AllGood own.kind values) (sym is) (flow_good version lines own));
    }
