-- What an entry does is told by its kind and its head.
use Rattle.std.proofs.Common.{sym, ap, ◌∙◌}
use Rattle.ec_query.specs.Sought.{is_sought}
use Rattle.ec_context.proofs.Shown.{IsShownAs-entry}
use Rattle.ec_query.proofs.SoughtEntries.{initiates-breaking, initiates-initiating, initiates-terminating, terminates-breaking, terminates-initiating, terminates-terminating}
use Rattle.ec_query.proofs.sought.is_sought.Goals as goal

pub returns-in-Initiation : goal.returns-in-Initiation
returns-in-Initiation g c = λ events p shown on there.
    let is = IsShownAs-entry c.args.parts.now.props c.args.entry.now shown there in
    c.is_head.ensures events p shown.head on is.head ∙ initiates-initiating p shown (sym is.kind ∙ c.in-Initiates.is)
    ∙ ap (λ s. is_sought c.args.parts.now.checked p s shown) (sym c.in-Initiation.is)

pub returns-in-Termination : goal.returns-in-Termination
returns-in-Termination g c = λ events p shown on there.
    let is = IsShownAs-entry c.args.parts.now.props c.args.entry.now shown there in
    initiates-terminating p shown (sym is.kind ∙ c.in-Initiates.is) ∙ ap (λ s. is_sought c.args.parts.now.checked p s shown) (sym c.in-Termination.is)

pub returns-in-Break : goal.returns-in-Break
returns-in-Break g c = λ events p shown on there.
    let is = IsShownAs-entry c.args.parts.now.props c.args.entry.now shown there in
    c.breaks.ensures events p shown.head on is.head ∙ initiates-breaking p shown (sym is.kind ∙ c.in-Initiates.is) c.args.parts.now.checked
    ∙ ap (λ s. is_sought c.args.parts.now.checked p s shown) (sym c.in-Break.is)

pub returns-in-Initiation-sought : goal.returns-in-Initiation-sought
returns-in-Initiation-sought g c = λ events p shown on there.
    let is = IsShownAs-entry c.args.parts.now.props c.args.entry.now shown there in
    terminates-initiating p shown (sym is.kind ∙ c.in-Terminates.is) ∙ ap (λ s. is_sought c.args.parts.now.checked p s shown) (sym c.in-Initiation-sought.is)

pub returns-in-Termination-sought : goal.returns-in-Termination-sought
returns-in-Termination-sought g c = λ events p shown on there.
    let is = IsShownAs-entry c.args.parts.now.props c.args.entry.now shown there in
    c.is_head-in-Termination-sought.ensures events p shown.head on is.head ∙ terminates-terminating p shown (sym is.kind ∙ c.in-Terminates.is)
    ∙ ap (λ s. is_sought c.args.parts.now.checked p s shown) (sym c.in-Termination-sought.is)

pub returns-in-Break-sought : goal.returns-in-Break-sought
returns-in-Break-sought g c = λ events p shown on there.
    let is = IsShownAs-entry c.args.parts.now.props c.args.entry.now shown there in
    terminates-breaking p shown (sym is.kind ∙ c.in-Terminates.is) c.args.parts.now.checked ∙ ap (λ s. is_sought c.args.parts.now.checked p s shown) (sym c.in-Break-sought.is)
