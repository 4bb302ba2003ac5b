mod NumberedLines
