mod NearestSoFar
mod QuotedWords
