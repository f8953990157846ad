-- What the command of each shape says is what the words ask for.
use Rattle.std.proofs.Common.{Some, refl, sym, ap, ◌∙◌}
use Rattle.ec_files.specs.ShownShape.{plain_shape}
use Rattle.ec_server.proofs.RunEnds.{Ends-asked}
use Rattle.ec_files.proofs.StatusCodes.{no_serve, no_soak, shape_is_there}
use Rattle.ec_server.proofs.top.obey.Goals as goal

pub returns-in-Some-Check-clause-ends : goal.returns-in-Some-Check-clause-ends
returns-in-Some-Check-clause-ends g c =
    Ends-asked (sym c.in-Some-Check.ensures.shape ∙ ap (λ (s : _). Some (plain_shape s)) c.in-Some-Check.field-0-is) (record { says = (c.check_command.ensures.checked, refl) })

pub returns-in-Some-Serve-clause-ends : goal.returns-in-Some-Serve-clause-ends
returns-in-Some-Serve-clause-ends g c =
    Ends-asked (sym c.in-Some-Serve.ensures.shape ∙ ap (λ (s : _). Some (plain_shape s)) c.in-Some-Serve.field-0-is) (record { says = c.serve_command.ensures.served })

pub returns-in-Some-Replay-clause-ends : goal.returns-in-Some-Replay-clause-ends
returns-in-Some-Replay-clause-ends g c =
    Ends-asked (sym c.in-Some-Replay.ensures.shape ∙ ap (λ (s : _). Some (plain_shape s)) c.in-Some-Replay.field-0-is) (record { says = (c.replay.ensures.replayed, refl) })

pub returns-in-Some-Soak-clause-ends : goal.returns-in-Some-Soak-clause-ends
returns-in-Some-Soak-clause-ends g c =
    Ends-asked (sym c.in-Some-Soak.ensures.shape ∙ ap (λ (s : _). Some (plain_shape s)) c.in-Some-Soak.field-0-is) (record { says = (c.soak_command.ensures.says, refl, refl) })

pub returns-in-None-clause-ends : goal.returns-in-None-clause-ends
returns-in-None-clause-ends g c = Ends-asked (sym c.in-None.ensures.shape) (record { says = (c.refuse_words.ensures.status, c.refuse_words.ensures.usage, refl, refl) })

pub returns-in-Some-Check-clause-folder : goal.returns-in-Some-Check-clause-folder
returns-in-Some-Check-clause-folder g c = λ lines seed asks. absurd (no_soak (sym c.in-Some-Check.ensures.shape ∙ ap (λ (s : _). Some (plain_shape s)) c.in-Some-Check.field-0-is) tt asks)

pub returns-in-Some-Check-clause-no_words : goal.returns-in-Some-Check-clause-no_words
returns-in-Some-Check-clause-no_words g c = λ none. absurd (shape_is_there (sym c.in-Some-Check.ensures.shape) none)

pub returns-in-Some-Serve-clause-folder : goal.returns-in-Some-Serve-clause-folder
returns-in-Some-Serve-clause-folder g c = λ lines seed asks. absurd (no_soak (sym c.in-Some-Serve.ensures.shape ∙ ap (λ (s : _). Some (plain_shape s)) c.in-Some-Serve.field-0-is) tt asks)

pub returns-in-Some-Serve-clause-no_words : goal.returns-in-Some-Serve-clause-no_words
returns-in-Some-Serve-clause-no_words g c = λ none. absurd (shape_is_there (sym c.in-Some-Serve.ensures.shape) none)

pub returns-in-Some-Replay-clause-folder : goal.returns-in-Some-Replay-clause-folder
returns-in-Some-Replay-clause-folder g c = λ lines seed asks. absurd (no_soak (sym c.in-Some-Replay.ensures.shape ∙ ap (λ (s : _). Some (plain_shape s)) c.in-Some-Replay.field-0-is) tt asks)

pub returns-in-Some-Replay-clause-no_words : goal.returns-in-Some-Replay-clause-no_words
returns-in-Some-Replay-clause-no_words g c = λ none. absurd (shape_is_there (sym c.in-Some-Replay.ensures.shape) none)

pub returns-in-Some-Check-clause-read_first : goal.returns-in-Some-Check-clause-read_first
returns-in-Some-Check-clause-read_first g c = λ name asks. absurd (no_serve (sym c.in-Some-Check.ensures.shape ∙ ap (λ (s : _). Some (plain_shape s)) c.in-Some-Check.field-0-is) tt asks)

pub returns-in-Some-Replay-clause-read_first : goal.returns-in-Some-Replay-clause-read_first
returns-in-Some-Replay-clause-read_first g c = λ name asks. absurd (no_serve (sym c.in-Some-Replay.ensures.shape ∙ ap (λ (s : _). Some (plain_shape s)) c.in-Some-Replay.field-0-is) tt asks)

pub returns-in-Some-Soak-clause-read_first : goal.returns-in-Some-Soak-clause-read_first
returns-in-Some-Soak-clause-read_first g c = λ name asks. absurd (no_serve (sym c.in-Some-Soak.ensures.shape ∙ ap (λ (s : _). Some (plain_shape s)) c.in-Some-Soak.field-0-is) tt asks)

pub returns-in-Some-Serve-clause-read_first : goal.returns-in-Some-Serve-clause-read_first
returns-in-Some-Serve-clause-read_first g c = λ name asks. c.serve_command.ensures.read_first

pub returns-in-None-clause-read_first : goal.returns-in-None-clause-read_first
returns-in-None-clause-read_first g c = λ name asks. absurd (shape_is_there asks (sym c.in-None.ensures.shape))

pub returns-in-Some-Certify-clause-ends : goal.returns-in-Some-Certify-clause-ends
returns-in-Some-Certify-clause-ends g c =
    Ends-asked (sym c.in-Some-Certify.ensures.shape ∙ ap (λ (s : _). Some (plain_shape s)) c.in-Some-Certify.field-0-is) (record { says = (c.certify_command.ensures.certified, refl) })

pub returns-in-Some-Certify-clause-folder : goal.returns-in-Some-Certify-clause-folder
returns-in-Some-Certify-clause-folder g c = λ lines seed asks. absurd (no_soak (sym c.in-Some-Certify.ensures.shape ∙ ap (λ (s : _). Some (plain_shape s)) c.in-Some-Certify.field-0-is) tt asks)

pub returns-in-Some-Certify-clause-no_words : goal.returns-in-Some-Certify-clause-no_words
returns-in-Some-Certify-clause-no_words g c = λ none. absurd (shape_is_there (sym c.in-Some-Certify.ensures.shape) none)

pub returns-in-Some-Certify-clause-read_first : goal.returns-in-Some-Certify-clause-read_first
returns-in-Some-Certify-clause-read_first g c = λ name asks. absurd (no_serve (sym c.in-Some-Certify.ensures.shape ∙ ap (λ (s : _). Some (plain_shape s)) c.in-Some-Certify.field-0-is) tt asks)
