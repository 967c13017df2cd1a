use Rattle.sig_words.proofs.{true, ◌≡◌, ◌∙◌, ap, ap₂, codes, rule_of, App, app_of, app_of_fields, new_app, on_top, with_rule, Command-F, option_rule, pace_rule, plain_rule, Workers, Capacity, Instants}
use Rattle.std.proofs.Common.{rules}
use Rattle.clap.specs.declared.builder.command.Command.{Command}
use Rattle.sig_words.proofs.given.command_line.Goals as goal

-- the settings of the command
abbrev with_settings : App → App
with_settings a = on_top (λ s. record s { no_binary_name = true; disable_help_flag = true }) a

pub returns : goal.returns
returns c =
    let plain_is : rule_of c.action-plain.result ≡ plain_rule = search rules in
    let pace_is : rule_of c.action-pace.result ≡ pace_rule = search rules in
    let workers_is : rule_of c.option.result ≡ option_rule Workers = search rules in
    let capacity_is : rule_of c.option-2.result ≡ option_rule Capacity = search rules in
    let instants_is : rule_of c.option-3.result ≡ option_rule Instants = search rules in
    let set_is : app_of c.disable_help_flag.result ≡ with_settings (new_app (codes "sigc")) =
    ap app_of_fields (c.disable_help_flag.ensures ∙ ap (λ (f : Command-F Command). record f { disable_help_flag = true }) c.no_binary_name.ensures)
    ∙ ap with_settings c.new-3.ensures.app in
    c.in_ok-line.ensures.shape (search rules)
    ∙ ap₂ with_rule (c.in_ok-arg-4.ensures.shape c.option-3.ensures.local
    ∙ ap₂ with_rule (c.in_ok-arg-3.ensures.shape c.option-2.ensures.local
    ∙ ap₂ with_rule (c.in_ok-arg-2.ensures.shape c.option.ensures.local
    ∙ ap₂ with_rule (c.in_ok-arg.ensures.shape (search rules) ∙ ap₂ with_rule set_is plain_is) workers_is) capacity_is) instants_is) pace_is
