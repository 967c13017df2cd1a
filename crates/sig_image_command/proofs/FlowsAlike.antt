-- A flow file is read alike for a kernel and for its image: the reading asks for the names and the kinds of the inputs alone.
use Rattle.sig_image_command.proofs.Common.{◌≡◌, ◌∙◌, ◌∷◌, ◌&&◌, ℕ, zero, suc, ℤ, Bool, List, [], map, take, Option, None, Some, refl, sym, ap, subst, ◌↔◌, bytes_eq, codes, flat_map, if◌then◌else◌, is_none, list_all, take-map, Signal, inputs_of, Kernel, AllGood, IsFirst, Judge, AreFlows, AreFlowsIn, Body, IsFirstBadPlace, IsFirstIn, body_at, body_of, file_body, flow_in, is_header, is_line_byte, kind_named, line_judge, named_count, named_fault, text_fault, values_for, words_count, words_fault, Line, lines_of, Word, words_of, FlowAnswer, BadLine, Version, One, Two, ImageView, image_signal, IsKernelImage, input_of, inputs_of_image}
use Rattle.sig_flow.specs.Flows.{is_name}

-- ---- inputs of the same names and kinds

module _ (a b : List Signal) (same : (name : List ℕ) → kind_named a name ≡ kind_named b name) where
  words_fault_same : (version : Version) (number before : ℕ) (words : List Word) → words_fault version a number before words ≡ words_fault version b number before words
  words_fault_same version number before [] = refl
  words_fault_same version number before (name ∷ values) =
      ap (λ o. if is_name name.text then named_fault version number before values o else Some (BadLine number)) (same name.text)

  text_fault_same : (version : Version) (number before : ℕ) (text : List ℕ) → text_fault version a number before text ≡ text_fault version b number before text
  text_fault_same version number before text =
      ap (λ fault. if list_all is_line_byte text then fault else Some (BadLine number)) (words_fault_same version number before (words_of text))

  words_count_same : (version : Version) (words : List Word) → words_count version a words ≡ words_count version b words
  words_count_same version [] = refl
  words_count_same version (name ∷ values) = ap (named_count version values) (same name.text)

  judge_same : (version : Version) → line_judge version a ≡ line_judge version b
  judge_same version = λ j. record {
    fault = λ before line. text_fault_same version line.number before line.text j;
    size = λ line. words_count_same version (words_of line.text) j;
  }

  header_same : (words : List Word) → is_header a words ≡ is_header b words
  header_same [] = refl
  header_same (first ∷ []) = refl
  header_same (first ∷ second ∷ []) =
      ap (λ o. bytes_eq first.text (codes "flows") && bytes_eq second.text (codes "2") && is_none o) (same (codes "flows"))
  header_same (first ∷ second ∷ third ∷ words) = refl

  body_at_same : (words : List Word) (line : Line) (lines : List Line) (later other : Body) → later ≡ other → body_at a words line lines later ≡ body_at b words line lines other
  body_at_same [] line lines later other e = e
  body_at_same (first ∷ words) line lines later other e =
      ap (λ (h : Bool). if h then (record { version = Two; lines = lines }) else (record { version = One; lines = line ∷ lines })) (header_same (first ∷ words))

  body_same : (lines : List Line) → body_of a lines ≡ body_of b lines
  body_same [] = refl
  body_same (line ∷ lines) = body_at_same (words_of line.text) line lines (body_of a lines) (body_of b lines) (body_same lines)

  good_same : (bytes : List ℕ) → AllGood (line_judge (file_body a bytes).version a) 0 (file_body a bytes).lines ≡ AllGood (line_judge (file_body b bytes).version b) 0 (file_body b bytes).lines
  good_same bytes = λ j. AllGood (judge_same (body_same (lines_of bytes) j).version j) 0 (body_same (lines_of bytes) j).lines

  bad_same : (bytes : List ℕ) (answer : FlowAnswer) → IsFirstBadPlace a bytes answer ≡ IsFirstBadPlace b bytes answer
  bad_same bytes answer = λ j. IsFirst (judge_same (body_same (lines_of bytes) j).version j) 0 (body_same (lines_of bytes) j).lines answer

-- ---- the inputs of an image

abbrev shipped : Signal → Signal
shipped signal = input_of (image_signal signal)

kinds_same : (signals : List Signal) (name : List ℕ) → kind_named signals name ≡ kind_named (map shipped signals) name
kinds_same [] name = refl
kinds_same (signal ∷ signals) name = ap (λ o. if bytes_eq signal.name name then Some signal.kind else o) (kinds_same signals name)

values_same : (version : Version) (signal : Signal) (words : List Word) → values_for version signal words ≡ values_for version (shipped signal) words
values_same version signal [] = refl
values_same version signal (name ∷ values) = refl

flow_same : (version : Version) (lines : List Line) (signal : Signal) → flow_in version lines signal ≡ flow_in version lines (shipped signal)
flow_same version lines signal = λ j. flat_map (λ line. values_same version signal (words_of line.text) j) lines

flows_same : (version : Version) (lines : List Line) (signals : List Signal) → map (flow_in version lines) signals ≡ map (flow_in version lines) (map shipped signals)
flows_same version lines [] = refl
flows_same version lines (signal ∷ signals) = λ j. flow_same version lines signal j ∷ flows_same version lines signals j

module _ (signals : List Signal) (bytes : List ℕ) where
  all_flows : map (flow_in (file_body signals bytes).version (file_body signals bytes).lines) signals
      ≡ map (flow_in (file_body (map shipped signals) bytes).version (file_body (map shipped signals) bytes).lines) (map shipped signals)
  all_flows =
      flows_same (file_body signals bytes).version (file_body signals bytes).lines signals
      ∙ ap (λ (body : Body). map (flow_in body.version body.lines) (map shipped signals)) (body_same signals (map shipped signals) (kinds_same signals) (lines_of bytes))

  shipped_flows : (flows : List (List ℤ)) → AreFlows signals bytes flows ↔ AreFlows (map shipped signals) bytes flows
  shipped_flows flows = (
    λ are. record { good = subst (λ (T : Type 0). T) (good_same signals (map shipped signals) (kinds_same signals) bytes) are.good; each = are.each ∙ all_flows },
    λ are. record { good = subst (λ (T : Type 0). T) (sym (good_same signals (map shipped signals) (kinds_same signals) bytes)) are.good; each = are.each ∙ sym all_flows },
  )

  shipped_bad : (answer : FlowAnswer) → IsFirstBadPlace signals bytes answer ↔ IsFirstBadPlace (map shipped signals) bytes answer
  shipped_bad answer = (
    λ bad. subst (λ (T : Type 0). T) (bad_same signals (map shipped signals) (kinds_same signals) bytes answer) bad,
    λ bad. subst (λ (T : Type 0). T) (sym (bad_same signals (map shipped signals) (kinds_same signals) bytes answer)) bad,
  )

map_again : (signals : List Signal) → map shipped signals ≡ map input_of (map image_signal signals)
map_again [] = refl
map_again (signal ∷ signals) = ap (λ more. shipped signal ∷ more) (map_again signals)

pub image_inputs : (kernel : Kernel) (image : ImageView) → IsKernelImage kernel image → map shipped (inputs_of kernel) ≡ inputs_of_image image
image_inputs kernel image of =
    map_again (inputs_of kernel)
    ∙ ap (map input_of) (sym (take-map image_signal kernel.inputs kernel.signals))
    ∙ ap (λ (k : Kernel). map input_of (take k.inputs (map image_signal k.signals))) (sym of.of.same)
    ∙ ap inputs_of_image (sym of.is)

pub same_flows : (kernel : Kernel) (image : ImageView) → IsKernelImage kernel image → (bytes : List ℕ) (flows : List (List ℤ))
    → AreFlows (inputs_of kernel) bytes flows ↔ AreFlows (inputs_of_image image) bytes flows
same_flows kernel image of bytes flows =
    subst (λ inputs. AreFlows (inputs_of kernel) bytes flows ↔ AreFlows inputs bytes flows) (image_inputs kernel image of) (shipped_flows (inputs_of kernel) bytes flows)

pub same_bad_place : (kernel : Kernel) (image : ImageView) → IsKernelImage kernel image → (bytes : List ℕ) (answer : FlowAnswer)
    → IsFirstBadPlace (inputs_of kernel) bytes answer ↔ IsFirstBadPlace (inputs_of_image image) bytes answer
same_bad_place kernel image of bytes answer =
    subst (λ inputs. IsFirstBadPlace (inputs_of kernel) bytes answer ↔ IsFirstBadPlace inputs bytes answer) (image_inputs kernel image of) (shipped_bad (inputs_of kernel) bytes answer)
