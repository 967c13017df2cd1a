-- Lemmas on the flow of a delay.
use Rattle.sig_kernel.proofs.Common.{◌≡◌, ◌++◌, ℕ, ℤ, List, [], ◌∷◌, length, take, refl, ap, ◌∙◌, None, Some, option_to_list, Contains, append-nil, Trace, Instant, Seen, Range, seen_at, flow_of, SigId, Span, flow_append, last_of, remembered, where_present, IsTraceIn, Meets, Equation, Delay, Kernel, at_element}
use Rattle.sig_kernel.proofs.TraceLemmas.{Runs, runs_from_trace}

last_more : (initial : ℤ) (values : List ℤ) (v : ℤ) → last_of initial (values ++ v ∷ []) ≡ v
last_more initial [] v = refl
last_more initial (w ∷ values) v = last_more w values v

-- one instant and what is behind it
one_delay : (seen_x seen_y : Seen) (memory next : ℤ) (rest_x rest_y : List ℤ) → seen_y ≡ where_present seen_x memory
    → (option_to_list seen_x ≡ [] → next ≡ memory) → ((v : ℤ) → seen_x ≡ Some v → next ≡ v) → rest_y ≡ take (length rest_x) (next ∷ rest_x)
    → option_to_list seen_y ++ rest_y ≡ take (length (option_to_list seen_x ++ rest_x)) (memory ∷ (option_to_list seen_x ++ rest_x))
one_delay None seen_y memory next rest_x rest_y is stays moves rest = rw is (rest ∙ ap (λ m. take (length rest_x) (m ∷ rest_x)) (stays refl))
one_delay (Some v) seen_y memory next rest_x rest_y is stays moves rest = rw is (ap (λ list. memory ∷ list) (rest ∙ ap (λ m. take (length rest_x) (m ∷ rest_x)) (moves v refl)))

delay_behind : (range : Range) (kernel : Kernel) (past trace : Trace) (y x : SigId) (initial : ℤ) (at : Span)
    → Contains kernel.equations (record { form = Delay y x initial; at = at }) → Runs range kernel past trace
    → flow_of y.0 trace ≡ take (length (flow_of x.0 trace)) (last_of initial (flow_of x.0 past) ∷ flow_of x.0 trace)
delay_behind range kernel past [] y x initial at there runs = refl
delay_behind range kernel past (instant ∷ trace) y x initial at there runs =
    one_delay (seen_at instant x.0) (seen_at instant y.0) (remembered past y.0 x.0 initial) (remembered (past ++ instant ∷ []) y.0 x.0 initial) (flow_of x.0 trace) (flow_of y.0 trace)
    (at_element (λ (equation : Equation). Meets range (remembered past) instant equation.form) kernel.equations (record { form = Delay y x initial; at = at }) there runs.0.equations)
    (λ none. ap (λ list. last_of initial list) (flow_append x.0 past (instant ∷ []) ∙ ap (λ list. flow_of x.0 past ++ (list ++ [])) none ∙ append-nil (flow_of x.0 past)))
    (λ v some. ap (λ list. last_of initial list) (flow_append x.0 past (instant ∷ []) ∙ ap (λ seen. flow_of x.0 past ++ (option_to_list seen ++ [])) some) ∙ last_more initial (flow_of x.0 past) v)
    (delay_behind range kernel (past ++ instant ∷ []) trace y x initial at there runs.1)

pub delay_flow : (range : Range) (kernel : Kernel) (trace : Trace) (y x : SigId) (initial : ℤ) (at : Span)
    → Contains kernel.equations (record { form = Delay y x initial; at = at }) → IsTraceIn range kernel trace
    → flow_of y.0 trace ≡ take (length (flow_of x.0 trace)) (initial ∷ flow_of x.0 trace)
delay_flow range kernel trace y x initial at there is = delay_behind range kernel [] trace y x initial at there (runs_from_trace range kernel trace is)

pub present_leaves : (past : Trace) (instant : Instant) (signal delayed : ℕ) (initial v : ℤ) → seen_at instant delayed ≡ Some v
    → remembered (past ++ instant ∷ []) signal delayed initial ≡ v
present_leaves past instant signal delayed initial v some =
    ap (λ list. last_of initial list) (flow_append delayed past (instant ∷ []) ∙ ap (λ seen. flow_of delayed past ++ (option_to_list seen ++ [])) some) ∙ last_more initial (flow_of delayed past) v
