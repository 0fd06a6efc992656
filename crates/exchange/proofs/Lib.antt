-- `Alike`, `Tests`, `Finding`, `Judging`: the tests of the rules, and what each says. `Unreported`: what holds of what is being sent, and
-- of the reports that wait, behind all that is reported. `Notes`, `Leaving`, `Keeping`: which note is answered, and what judging leaves.
-- `Refusing`, `Accepting`: which requests are refused, and what the others leave. `Table`: 01's numbers. `Cases`: judging and the requests
-- case by case; on it `BeingSent`: which calls start and end the message being sent; `Causing`: what a cause, and a line that is freed,
-- leave of the reports that wait; `Boxes`: what a block does; `Tables`, `Filling`, `Holding`, `Joining`, `Areas`: what the areas begin with
-- after any calls. `AnyRoom`, `Runs`: any calls, each in any room. `SavedHeader`: which header is saved after them. `Sides`: own places and
-- incoming ones, by side. `OneCall`: what one call does to a place of either, case by case; on it `Releases`: what stays until a release;
-- `Watching`, `Inside`: each place goes through events of a place, as its onlooker sees them. `Underway`, `Replies`: a request, and our
-- reply, that is on its way. `Flagging`, `Telling`, `Stilling`: what the flags tell, and a tick at which nothing happens. `Repeated`,
-- `Outcomes`, `Blocks`, `Growing`: the blocks of a cut message; `Evens`: a reply that is arriving has an even function; `Odds`: a message
-- in an incoming place came to this end and has an odd one; `Passing`: ticks, and all places but one; `Timely`: ticks of which nothing is
-- reported; on these `Coming`: such blocks, one after the other, with ticks between them, on either side; and so `Assembling`, `Answering`:
-- they are the message. `Same`: which message is being sent. `Starting`: what a cause, and a freed line, leave of the numbers and of what is
-- being sent; on it `Numbering`, `Latest`: the transaction numbers. `Another`: a message that follows another in one call is another one.
-- `Posting`: the message being sent is the one that was accepted. `Reporting`: the reports that wait, start and are dropped are those that an
-- onlooker keeps; `Adding`: what a tick and the end of a send add. `Tens`: the headers that they show have ten bytes. `Hosting`: a host
-- reports nothing. `Tallying`: how many causes there were, and how many reports started. `Places`: where no place is read, and where a reply
-- is owed. `Ranges`: the ranges, field by field.
pub mod Alike
pub mod Tests
pub mod Unreported
pub mod Finding
pub mod Judging
pub mod Notes
pub mod Leaving
pub mod Keeping
pub mod Refusing
pub mod Accepting
pub mod Table
pub mod Cases
pub mod Same
pub mod Starting
pub mod BeingSent
pub mod Causing
pub mod Boxes
pub mod Tables
pub mod Sides
pub mod Filling
pub mod Holding
pub mod Joining
pub mod Areas
pub mod AnyRoom
pub mod Runs
pub mod SavedHeader
pub mod OneCall
pub mod Releases
pub mod Watching
pub mod Underway
pub mod Replies
pub mod Ranges
pub mod Inside
pub mod Flagging
pub mod Telling
pub mod Repeated
pub mod Outcomes
pub mod Blocks
pub mod Growing
pub mod Evens
pub mod Odds
pub mod Passing
pub mod Timely
pub mod Coming
pub mod Assembling
pub mod Answering
pub mod Stilling
pub mod Numbering
pub mod Latest
pub mod Another
pub mod Places
pub mod Posting
pub mod Reporting
pub mod Tens
pub mod Adding
pub mod Hosting
pub mod Tallying
