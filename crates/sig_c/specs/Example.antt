-- A text, byte for byte, and the unit that it is: it asks for an input, calls a helper, keeps a field and gives an output.
use Rattle.std.specs.Prelude.{◌∷◌, ◌++◌, ℕ, pos, negsuc, List, [], Some, None, codes}
use Rattle.sig_c.specs.SmallC.{Variable, Field, Less, Expression, Number, Get, Binary, Add, TheState, Set, When, Check, Ask, Give, Ignore, Return, Statements, none, more, Truth, Wide, Header, Done, Exhausted, Overflow, TranslationUnit}
use Rattle.sig_c.specs.Helpers.{definition_of}

abbrev pub example_text : List ℕ
example_text =
    codes "/* An example. */\n"
    ++ (codes "#include \"P.h\"\n"
    ++ (codes "\n"
    ++ (codes "static int add(int64_t a, int64_t b, int64_t *result)\n"
    ++ (codes "{\n"
    ++ (codes "    if ((b > 0) ? (a > (INT64_MAX - b)) : (a < (INT64_MIN - b))) { return 1; }\n"
    ++ (codes "    *result = a + b;\n"
    ++ (codes "    return 0;\n"
    ++ (codes "}\n"
    ++ (codes "\n"
    ++ (codes "const P_end P_ends[3] = {\n"
    ++ (codes "    {P_DONE, 0, 0, \"\"},\n"
    ++ (codes "    {P_EXHAUSTED, 1, 2, \"A\"},\n"
    ++ (codes "    {P_OVERFLOW, 3, 4, \"#3:4\"}\n"
    ++ (codes "};\n"
    ++ (codes "\n"
    ++ (codes "void P_init(P_state *state)\n"
    ++ (codes "{\n"
    ++ (codes "    state->S = 5;\n"
    ++ (codes "    state->T = 1;\n"
    ++ (codes "}\n"
    ++ (codes "\n"
    ++ (codes "int P_step(P_state *state, P_context *context)\n"
    ++ (codes "{\n"
    ++ (codes "    int64_t A = 0;\n"
    ++ (codes "    int B = 0;\n"
    ++ (codes "    int64_t next_S = state->S;\n"
    ++ (codes "    (void)state;\n"
    ++ (codes "    if (!r_P_A(context, &A)) { return 1; }\n"
    ++ (codes "    if (add(A, -1, &next_S)) { return 2; }\n"
    ++ (codes "    if (next_S < INT64_C(3000000000)) { B = 1; }\n"
    ++ (codes "    state->S = next_S;\n"
    ++ (codes "    if (B) { w_P_Y(context, B); }\n"
    ++ (codes "    return 0;\n"
    ++ codes "}\n")))))))))))))))))))))))))))))))))

abbrev pub example_header : Header
example_header = record {
  prefix = codes "P";
  inputs = record { name = codes "r_P_A"; takes = Some Wide } ∷ [];
  outputs = record { name = codes "w_P_Y"; takes = Some Truth } ∷ [];
  fields = record { name = codes "S"; width = Wide } ∷ record { name = codes "T"; width = Truth } ∷ [];
}

-- the variables A, B and next_S
abbrev pub a : Expression
a = Get (Variable 0)

abbrev pub b : Expression
b = Get (Variable 1)

abbrev pub next : Expression
next = Get (Variable 2)

abbrev pub example_step : Statements
example_step =
    more (Ignore TheState)
    (more (Ask 0 (Some 0) 1)
    (more (Check Add a (Number (negsuc 0)) 2 2)
    (more (When (Binary Less next (Number (pos 3000000000))) (more (Set (Variable 1) (Number (pos 1))) none))
    (more (Set (Field 0) next)
    (more (When b (more (Give 0 (Some b)) none))
    (more (Return 0) none))))))

abbrev pub example_unit : TranslationUnit
example_unit = record {
  helpers = definition_of Add ∷ [];
  ends =
      record { cause = Done; line = 0; column = 0; name = [] } ∷ record { cause = Exhausted; line = 1; column = 2; name = codes "A" }
      ∷ record { cause = Overflow; line = 3; column = 4; name = codes "#3:4" } ∷ [];
  firsts = pos 5 ∷ pos 1 ∷ [];
  variables =
      record { name = codes "A"; width = Wide; first = None } ∷ record { name = codes "B"; width = Truth; first = None }
      ∷ record { name = codes "next_S"; width = Wide; first = Some 0 } ∷ [];
  step = example_step;
}
