-- What the line says decides.
use Rattle.std.proofs.Common.{refl, subst}
use Rattle.std.specs.Prelude.{Ok, Err}
use Rattle.ec_cert.specs.declared.event_fault.EventName.TheVariants.{Syntax}
use Rattle.ec_cert.specs.declared.event_fault.EventFault.TheVariants.{At}
use Rattle.ec_cert.specs.EventFile.{FileLine, after_line}
use Rattle.ec_cert.specs.Reading.{GoesOn}
use Rattle.ec_cert.proofs.event_file.Reading.with_line.Goals as goal

pub returns-in-Nothing : goal.returns-in-Nothing
returns-in-Nothing g c = record {
  goes = λ bytes shown.
      subst (λ (said : FileLine). GoesOn c.args.number c.args.self (after_line c.args.self.theory c.args.self.all c.args.self.events said) (Ok c.args.self)) (c.in-Nothing.ensures.line bytes shown) (refl, refl);
}

pub returns-in-Neither : goal.returns-in-Neither
returns-in-Neither g c = record {
  goes = λ bytes shown.
      subst (λ (said : FileLine). GoesOn c.args.number c.args.self (after_line c.args.self.theory c.args.self.all c.args.self.events said) (Err (At c.args.number Syntax))) (c.in-Neither.ensures.line bytes shown)
      (refl, refl);
}

pub returns-in-Event : goal.returns-in-Event
returns-in-Event g c = record {
  goes = λ bytes shown.
      subst (λ (said : FileLine). GoesOn c.args.number c.args.self (after_line c.args.self.theory c.args.self.all c.args.self.events said) c.with_event.result) (c.in-Event.ensures.line bytes shown)
      c.with_event.ensures.goes;
}
