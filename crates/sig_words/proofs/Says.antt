-- What words say is what they are read as.
use Rattle.sig_words.proofs.Common.{refl, ◌≡◌, ℕ, ◌≤◌, Bool, true, false, List, length, sym, ap, ◌∙◌, arith, cond, Option, Some, None, option_to_list, subst, same_Some, Word, Reading, values_of, paces, OptionValues, option_values, IsSaid, Said, said_values, Workers, Capacity, Instants}
use Rattle.sig_words.proofs.Steps.{Any, nothing, run}
use Rattle.sig_words.proofs.Complete.{Fits, complete}
use Rattle.sig_words.proofs.Sound.{sound}
use Rattle.sig_words.proofs.Summary.{Adds}

-- what is read gives as much as the reading
pub same_values : (r : Reading) (after : Said) → Adds nothing r after → said_values after ≡ option_values r
same_values r after adds =
    let whole : (a b c : List Word) (d : ℕ) → OptionValues = λ a b c d. record { workers = a; capacity = b; instants = c; paces = d } in
    let said = said_values after in
    let p : said.paces ≡ paces r = omega (arith, adds.paces) in
    ap (λ (x : List Word). whole x said.capacity said.instants said.paces) adds.workers
    ∙ ap (λ (x : List Word). whole (values_of Workers r) x said.instants said.paces) adds.capacity
    ∙ ap (λ (x : List Word). whole (values_of Workers r) (values_of Capacity r) x said.paces) adds.instants
    ∙ ap (λ (x : ℕ). whole (values_of Workers r) (values_of Capacity r) (values_of Instants r) x) p

option_short : (o : Option Word) → length (option_to_list o) ≤ 1
option_short None = omega arith
option_short (Some w) = omega arith

abbrev times : Bool → ℕ
times pace = cond pace 1 0

pace_short : (b : Bool) → times b ≤ 1
pace_short true = omega arith
pace_short false = omega arith

option_same : (a b : Option Word) → option_to_list a ≡ option_to_list b → a ≡ b
option_same None None is = refl
option_same None (Some w) is = cc
option_same (Some v) None is = cc
option_same (Some v) (Some w) is = cc

pace_same : (a b : Bool) → times a ≡ times b → a ≡ b
pace_same true false is = absurd (omega (arith, is))
pace_same false true is = absurd (omega (arith, is))
pace_same _ _ is = refl

said_same : (s t : Said) → s.plain ≡ t.plain → said_values s ≡ said_values t → s ≡ t
said_same s t plain values =
    let workers = option_same s.workers t.workers (ap (λ (v : OptionValues). v.workers) values) in
    let capacity = option_same s.capacity t.capacity (ap (λ (v : OptionValues). v.capacity) values) in
    let instants = option_same s.instants t.instants (ap (λ (v : OptionValues). v.instants) values) in
    let pace = pace_same s.pace t.pace (ap (λ (v : OptionValues). v.paces) values) in
    λ i. record { plain = plain i; workers = workers i; capacity = capacity i; instants = instants i; pace = pace i }

fits_said : (words : List Word) (s : Said) → (is : IsSaid words s) → Fits nothing is.reading
fits_said words s is = record {
  workers = subst (λ (vs : List Word). length vs ≤ 1) (ap (λ (v : OptionValues). v.workers) is.values) (option_short s.workers);
  capacity = subst (λ (vs : List Word). length vs ≤ 1) (ap (λ (v : OptionValues). v.capacity) is.values) (option_short s.capacity);
  instants = subst (λ (vs : List Word). length vs ≤ 1) (ap (λ (v : OptionValues). v.instants) is.values) (option_short s.instants);
  paces = omega (arith, pace_short s.pace, ap (λ (v : OptionValues). v.paces) is.values);
}

-- words are read as what they say
pub said_run : (words : List Word) (s : Said) → IsSaid words s → run Any words nothing ≡ Some s
said_run words s is =
    let read = complete is.reading.items is.reading.behind nothing is.reads.good is.apart (fits_said words s is) in
    let same = said_same read.after s (read.adds.plain ∙ sym is.plain) (same_values is.reading read.after read.adds ∙ sym is.values) in
    ap (λ (ws : List Word). run Any ws nothing) is.reads.whole ∙ read.runs ∙ ap (λ (t : Said). Some t) same

-- and say what they are read as
pub run_said : (words : List Word) (s : Said) → run Any words nothing ≡ Some s → IsSaid words s
run_said words s runs =
    let read = sound Any words nothing s runs in
    record {
      reading = read.reading;
      reads = read.reads;
      apart = read.apart;
      plain = read.adds.plain;
      values = same_values read.reading s read.adds;
    }

-- words say one thing at most
pub said_once : (words : List Word) (s t : Said) → IsSaid words s → IsSaid words t → s ≡ t
said_once words s t a b = same_Some s t (sym (said_run words s a) ∙ said_run words t b)
