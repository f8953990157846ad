-- What the status says is what the exit status says.
use Rattle.ec_files.specs.ShownShape.{asked}
use Rattle.ec_server.proofs.RunEnds.{IsRan, accepted, completes, ended, files_told, finds_long, folder_fault, input_told, limit, long_lines, long_theory, no_shape, no_time, output_told, part, proves, read_fault, refused, refused_events, refuses, refuses_events, replies, rest, serves_alone, soaks, stops, unasked, unread, untouched, usage, verifies, whole, why_usage, within, write_fault}
use Rattle.ec_files.proofs.StatusCodes.{fault_status, hands_on-code}
use Rattle.ec_server.proofs.top.run.Goals as goal

-- the run ended with the status that its code is of
ran : (g : _) (c : goal.After-code g) →
    IsRan g.S.Source.left g.S.Source.faults g.K.Sink.stands g.K.Sink.faults (g.F.Folder.files c.args.files.now) (g.F.Folder.faults c.args.files.now) (g.F.Folder.faults c.obey.new.files)
    c.args.input.now c.obey.new.input c.args.output.now c.obey.new.output (asked c.args.words.now) c.code.result
ran g c = record { ended = c.obey.result; is = c.code.ensures; ends = c.obey.ensures.ends }

pub returns-clause-replies : goal.returns-clause-replies
returns-clause-replies g c = replies (ran g c)

pub returns-clause-completes : goal.returns-clause-completes
returns-clause-completes g c = completes (ran g c)

pub returns-clause-ended : goal.returns-clause-ended
returns-clause-ended g c = ended (ran g c)

pub returns-clause-accepted : goal.returns-clause-accepted
returns-clause-accepted g c = accepted (ran g c)

pub returns-clause-soaks : goal.returns-clause-soaks
returns-clause-soaks g c = soaks (ran g c)

pub returns-clause-no_shape : goal.returns-clause-no_shape
returns-clause-no_shape g c = no_shape (ran g c)

pub returns-clause-usage : goal.returns-clause-usage
returns-clause-usage g c = usage (ran g c)

pub returns-clause-refused : goal.returns-clause-refused
returns-clause-refused g c = refused (ran g c)

pub returns-clause-refuses : goal.returns-clause-refuses
returns-clause-refuses g c = refuses (ran g c)

pub returns-clause-long_theory : goal.returns-clause-long_theory
returns-clause-long_theory g c = long_theory (ran g c)

pub returns-clause-read_fault : goal.returns-clause-read_fault
returns-clause-read_fault g c = read_fault (ran g c)

pub returns-clause-whole : goal.returns-clause-whole
returns-clause-whole g c = whole (ran g c)

pub returns-clause-write_fault : goal.returns-clause-write_fault
returns-clause-write_fault g c = write_fault (ran g c)

pub returns-clause-part : goal.returns-clause-part
returns-clause-part g c = part (ran g c)

pub returns-clause-folder_fault : goal.returns-clause-folder_fault
returns-clause-folder_fault g c = folder_fault (ran g c)

pub returns-clause-long_lines : goal.returns-clause-long_lines
returns-clause-long_lines g c = long_lines (ran g c)

pub returns-clause-finds_long : goal.returns-clause-finds_long
returns-clause-finds_long g c = finds_long (ran g c)

pub returns-clause-limit : goal.returns-clause-limit
returns-clause-limit g c = limit (ran g c)

pub returns-clause-stops : goal.returns-clause-stops
returns-clause-stops g c = stops (ran g c)

pub returns-clause-rest : goal.returns-clause-rest
returns-clause-rest g c = rest (ran g c)

pub returns-clause-within : goal.returns-clause-within
returns-clause-within g c = within (ran g c)

pub returns-clause-unasked : goal.returns-clause-unasked
returns-clause-unasked g c = unasked (ran g c)

pub returns-clause-untouched : goal.returns-clause-untouched
returns-clause-untouched g c = untouched (ran g c)

pub returns-clause-unread : goal.returns-clause-unread
returns-clause-unread g c = unread (ran g c)

pub returns-clause-serves_alone : goal.returns-clause-serves_alone
returns-clause-serves_alone g c = serves_alone (ran g c)

pub returns-clause-proves : goal.returns-clause-proves
returns-clause-proves g c = proves (ran g c)

pub returns-clause-verifies : goal.returns-clause-verifies
returns-clause-verifies g c = verifies (ran g c)

pub returns-clause-no_time : goal.returns-clause-no_time
returns-clause-no_time g c = no_time (ran g c)

pub returns-clause-why_usage : goal.returns-clause-why_usage
returns-clause-why_usage g c = why_usage (ran g c)

pub returns-clause-refused_events : goal.returns-clause-refused_events
returns-clause-refused_events g c = refused_events (ran g c)

pub returns-clause-refuses_events : goal.returns-clause-refuses_events
returns-clause-refuses_events g c = refuses_events (ran g c)

pub returns-clause-handed_on : goal.returns-clause-handed_on
returns-clause-handed_on g c = λ either. c.obey.ensures.handed_on (hands_on-code c.obey.result c.code.ensures either)

pub returns-clause-no_file : goal.returns-clause-no_file
returns-clause-no_file g c = c.obey.ensures.no_words

pub returns-clause-input_told : goal.returns-clause-input_told
returns-clause-input_told g c = input_told (ran g c)

pub returns-clause-files_told : goal.returns-clause-files_told
returns-clause-files_told g c = files_told (ran g c)

pub returns-clause-output_told : goal.returns-clause-output_told
returns-clause-output_told g c = output_told (ran g c)

pub returns-clause-read_first : goal.returns-clause-read_first
returns-clause-read_first g c = λ five name asks. c.obey.ensures.read_first name asks (fault_status c.obey.result c.code.ensures five)

pub returns-clause-one_end : goal.returns-clause-one_end
returns-clause-one_end g c = c.obey.ensures.one_end
