mod CountedLines
mod FoundAnswers
